use Rattle.std.proofs.Common.{arith}
use Rattle.std.proofs.lemmas.List.{get_or_default}
use Rattle.spead_wire.proofs.WriteLemmas.{pointer_more, pointers_all}
use Rattle.spead_wire.proofs.encoding.put_pointers.Goals as goal

pub loop-pointer-preserved : goal.loop-pointer-preserved
loop-pointer-preserved c =
    let place = c.loop-pointer.invariant.place in
    let room = c.requires.room in
    record {
      place = omega (arith, place, c.put_pointer-behind.ensures.place);
      bytes = pointer_more c.args.out.now c.loop-pointer.out c.put_pointer-behind.new.out c.args.at
          c.loop-pointer.behind c.loop-pointer.pointer-index c.args.pointers.now _
          c.loop-pointer.invariant.bytes place c.loop-pointer-test.true
          (get_or_default c.args.pointers.now c.loop-pointer.pointer-index _ _ c.loop-pointer-test.true)
          c.put_pointer-behind.ensures.bytes (omega arith);
    }

pub returns-clause-place : goal.returns-clause-place
returns-clause-place c = let place = c.loop-pointer.invariant.place in omega arith

pub returns-clause-bytes : goal.returns-clause-bytes
returns-clause-bytes c =
    pointers_all c.args.out.now c.loop-pointer.out c.args.at c.loop-pointer.pointer-index c.args.pointers.now
    c.loop-pointer.invariant.bytes c.loop-pointer-test.false
