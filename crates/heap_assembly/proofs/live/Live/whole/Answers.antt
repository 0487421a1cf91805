use Rattle.std.proofs.Common.{◌≡◌, true, subst, arith}
use Rattle.corr_model.specs.Assembly.{heap_of}
use Rattle.corr_model.specs.LiveHeaps.{HeapStandsFor, kept_shown}
use Rattle.heap_assembly.specs.Heaps.{whole_of}
use Rattle.heap_assembly.specs.LiveStates.{live_of}
use Rattle.heap_assembly.specs.Inside.{state_of}
use Rattle.heap_assembly.proofs.SoundLemmas.{have_within}
use Rattle.heap_assembly.proofs.WholeLemmas.{heap_of_whole}
use Rattle.heap_assembly.proofs.live.Live.whole.Goals as goal

pub split_at-requires : goal.split_at-requires
split_at-requires c =
    let most = have_within _ c.self.invariant in
    let long = c.self.invariant.bytes in
    omega (arith, most, long)

pub returns-clause-whole : goal.returns-clause-whole
returns-clause-whole c =
    λ ms s. subst (λ e. e.whole ≡ true → HeapStandsFor (live_of e) ms
    → whole_of c.new.result ≡ heap_of e.counter (kept_shown ms)) c.self.view_is
    (heap_of_whole (state_of c.self.inside) ms (whole_of c.new.result) _ _ _ c.self.invariant c.new.ensures
    c.as_slice.ensures.value c.split_at.ensures.front c.deref.ensures.value)
    c.requires.whole s
