use Rattle.std.proofs.Common.{◌≡◌, ◌≤◌, IfSome, None, sym, subst, rules, arith}
use Rattle.std.proofs.lemmas.List.{with_items_is}
use Rattle.corr_model.specs.Windows.{end_of}
use Rattle.heap_assembly.specs.Steps.{early_cause}
use Rattle.heap_assembly.proofs.SoundLemmas.{sound_after, have_within}
use Rattle.heap_assembly.proofs.live.Live.keep.Goals as goal

pub overflow_add-self : goal.overflow_add-self
overflow_add-self c =
    let most = have_within _ c.self.invariant in
    let small = c.self.invariant.small in
    omega (arith, most, small)

pub invariant_of-self : goal.invariant_of-self
invariant_of-self c =
    let p = c.args.packet.now in
    let words = with_items_is c.self.inside.words c.mark.new.words (omega arith) in
    let bytes = with_items_is c.self.inside.bytes c.put.new.bytes (omega arith) in
    rw (words, bytes) (sound_after _ p _ c.self.invariant (search rules)
    (subst (λ e. early_cause e p ≡ None) (sym c.self.view_is) c.requires.early)
    (subst (λ s. IfSome s (λ size. end_of p ≤ size)) c.size.ensures.value c.size.ensures.within) (search rules)
    (omega arith))
