use Rattle.std.proofs.Common.{◌≡◌, ◌+◌, ◌*◌, take, flat_map}
use Rattle.corr_model.specs.Descriptors.{word_of}
use Rattle.spead_wire.specs.Writing.{PutsAt}
use Rattle.spead_wire.proofs.encoding.put_pointers.Given as goal

abbrev pub invariant-loop-pointer : goal.invariant-loop-pointer
invariant-loop-pointer l = record {
  place : l.behind ≡ l.at + 8 * l.pointer-index;
  bytes : PutsAt l.initial.out l.out l.at (flat_map word_of (take l.pointer-index l.pointers));
}
