use Rattle.std.proofs.Common.{◌≡◌, ◌+◌, length, take, drop, if◌then◌else◌, ap, sym, ◌∙◌, arith}
use Rattle.std.specs.Int.{bytes_high_first}
use Rattle.spead_wire.proofs.WriteLemmas.{puts_both}
use Rattle.spead_wire.proofs.encoding.put_pointer.Goals as goal
use Rattle.spead_wire.proofs.encoding.put_pointer.Goals.{then-pointer, else-pointer}

pub returns-clause-bytes : goal.returns-clause-bytes
returns-clause-bytes c =
    let p = c.args.pointer in
    let mode : c.if-pointer.mode ≡ (if p.immediate then 32768 else 0)
    = elim c.if-pointer.branch [
      | then-pointer w ↦ w.mode-is ∙ sym (ap (λ b. if b then 32768 else 0) w.if-pointer.true)
      | else-pointer w ↦ w.mode-is ∙ sym (ap (λ b. if b then 32768 else 0) w.if-pointer.false)
    ] in
    puts_both c.args.out.now c.put-at.new.out c.put.new.out c.args.at c.put-at.result c.to_be_bytes.result _
    (bytes_high_first 2 ((if p.immediate then 32768 else 0) + p.id)) (bytes_high_first 6 p.value) c.put-at.ensures.bytes
    c.put.ensures.bytes
    (c.to_be_bytes.ensures ∙ ap (λ m. bytes_high_first 2 (m + p.id)) mode)
    (ap (λ l. take 6 (drop 2 l)) c.to_be_bytes-2.ensures)
    c.put-at.ensures.place (let room = c.requires.room in let two = ap length c.to_be_bytes.ensures in omega arith)
