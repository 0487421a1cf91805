use Rattle.std.proofs.Common.{refl, arith}
use Rattle.heap_assembly.proofs.SoundLemmas.{sound_empty}
use Rattle.heap_assembly.proofs.live.Live.new.Goals as goal

pub invariant_of-result : goal.invariant_of-result
invariant_of-result c =
    let room = c.in_ok-words.ensures.room in
    let few = c.in_ok-words.ensures.few in
    let long = c.in_ok-words.words.ok.0 in
    sound_empty _ (omega arith) (omega (arith, room, long)) (omega (arith, few, long)) c.in_ok-bytes.ensures
    c.in_ok-words.ensures.none refl refl refl refl
