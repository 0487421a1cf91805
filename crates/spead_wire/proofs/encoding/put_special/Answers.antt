use Rattle.std.proofs.Common.{[], ◌∷◌, arith, length-append}
use Rattle.corr_model.specs.Descriptors.{immediate, size_pointers}
use Rattle.spead_wire.proofs.WriteLemmas.{special_puts}
use Rattle.spead_wire.proofs.encoding.put_special.Goals as goal

pub returns-clause-bytes : goal.returns-clause-bytes
returns-clause-bytes c =
    let room = c.requires.room in
    special_puts c.args.out.now c.put_pointer-at.new.out c.put_size-at.new.out c.put_pointer-at-2.new.out
    c.put_pointer.new.out c.args.at c.put_pointer-at.result c.put_size-at.result c.put_pointer-at-2.result
    c.args.head.now.counter c.args.head.now.size c.args.head.now.offset c.args.payload_len c.immediate.result
    c.immediate-2.result c.immediate-3.result
    c.immediate.ensures c.immediate-2.ensures c.immediate-3.ensures
    c.put_pointer-at.ensures.bytes c.put_size-at.ensures.bytes c.put_pointer-at-2.ensures.bytes
    c.put_pointer.ensures.bytes
    c.put_pointer-at.ensures.place c.put_size-at.ensures.place c.put_pointer-at-2.ensures.place
    (omega (
      arith,
      length-append (size_pointers c.args.head.now.size)
          (immediate 3 c.args.head.now.offset ∷ immediate 4 c.args.payload_len ∷ []),
    ))
