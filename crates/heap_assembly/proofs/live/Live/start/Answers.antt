use Rattle.std.proofs.Common.{refl, arith}
use Rattle.std.proofs.lemmas.List.{with_items_is}
use Rattle.heap_assembly.proofs.SoundLemmas.{sound_empty}
use Rattle.heap_assembly.proofs.live.Live.start.Goals as goal

pub invariant_of-self : goal.invariant_of-self
invariant_of-self c =
    let s = c.self.invariant in
    let room = s.room in
    let few = s.few in
    let is = with_items_is c.self.inside.words c.clear.new.words (omega arith) in
    rw is (sound_empty _ s.small (omega arith) (omega arith) s.bytes c.clear.ensures refl refl refl refl)
