use Rattle.std.proofs.Common.{◌≡◌, take}
use Rattle.spead_types.proofs.name.Name.new.Given as goal

abbrev pub invariant-loop-byte : goal.invariant-loop-byte
invariant-loop-byte l = l.all ≡ take l.byte-index l.bytes
