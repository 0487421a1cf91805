use Rattle.std.proofs.Common.{◌≡◌, ◌+◌, ℕ, true, false, Option, Some, None, is_some, length, refl, sym, ◌∙◌, arith, length-append}
use Rattle.corr_model.specs.Descriptors.{size_pointers, special_pointers}
use Rattle.corr_model.proofs.PacketLaws.{Spells-packet_in}
use Rattle.spead_wire.specs.Writing.{encoded_len}
use Rattle.spead_wire.proofs.WriteLemmas.{packet_puts, read_back}
use Rattle.spead_wire.proofs.encoding.encode_into.Goals as goal
use Rattle.spead_wire.proofs.encoding.encode_into.Goals.{then-is_some, else-is_some}

said : (size : Option ℕ) → is_some size ≡ true → 4 ≡ 3 + length (size_pointers size)
said None h = absurd cc
said (Some s) h = refl

unsaid : (size : Option ℕ) → is_some size ≡ false → 3 ≡ 3 + length (size_pointers size)
unsaid None h = refl
unsaid (Some s) h = absurd cc

pub returns : goal.returns
returns c =
    let head = c.args.head.now in
    let pointers = c.args.pointers.now in
    let payload = c.args.payload.now in
    let many : c.if-is_some.special ≡ 3 + length (size_pointers head.size)
    = elim c.if-is_some.branch [
      | then-is_some w ↦ w.special-is ∙ said head.size (sym c.is_some.ensures ∙ w.if-is_some.true)
      | else-is_some w ↦ w.special-is ∙ unsaid head.size (sym c.is_some.ensures ∙ w.if-is_some.false)
    ] in
    let joined = length-append (special_pointers head.counter head.size head.offset (length payload)) pointers in
    let room = c.requires.room in
    let whole : c.put.result ≡ encoded_len head pointers payload
    = omega (
      arith,
      joined,
      c.put_header-at.ensures.place,
      c.put_special-at.ensures.place,
      c.put_pointers-at.ensures.place,
      c.put.ensures.place,
    ) in
    let written = packet_puts c.args.out.now c.put_header-at.new.out c.put_special-at.new.out
    c.put_pointers-at.new.out c.put.new.out
    c.put_header-at.result c.put_special-at.result c.put_pointers-at.result c.put.result c.if-is_some.special head
    pointers payload
    many c.put_header-at.ensures.bytes c.put_special-at.ensures.bytes c.put_pointers-at.ensures.bytes
    c.put.ensures.bytes
    c.put_header-at.ensures.place c.put_special-at.ensures.place c.put_pointers-at.ensures.place c.put.ensures.place
    (omega (arith, whole, room)) in
    let back = read_back _ head pointers payload c.requires.widths c.requires.few written.front in
    record {
      length = whole;
      bytes = written.front;
      rest = written.rest;
      written = Spells-packet_in _ _ back;
      read_back = back;
    }
