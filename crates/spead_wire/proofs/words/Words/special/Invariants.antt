use Rattle.std.proofs.Common.{◌≡◌, List}
use Rattle.corr_model.specs.declared.pointer.Pointer.{Pointer}
use Rattle.spead_wire.specs.declared.special.Special.{Special}
use Rattle.corr_model.specs.Packets.{last_value}
use Rattle.spead_wire.proofs.words.Words.special.Given as goal

-- what the pointers so far say
pub record AreLast (special : Special) (ps : List Pointer) : Type 0 where
  pub counter : special.counter ≡ last_value 1 ps
  pub size : special.size ≡ last_value 2 ps
  pub offset : special.offset ≡ last_value 3 ps
  pub payload_len : special.payload_len ≡ last_value 4 ps

abbrev pub invariant-loop-pointer : goal.invariant-loop-pointer
invariant-loop-pointer l = AreLast l.special l.yielded
