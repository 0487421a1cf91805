use Rattle.std.proofs.Common.{◌≡◌, ◌+◌, ◌∙◌, false, sym, subst, arith}
use Rattle.std.specs.Prelude.{All, is_some}
use Rattle.std.specs.Vec.{vec_len}
use Rattle.std.proofs.lemmas.List.Elements.{All-push}
use Rattle.spead_corr.proofs.seats.program_seats.Goals as goal

pub loop-number-preserved : goal.loop-number-preserved
loop-number-preserved g c =
    let more : vec_len c.push.new.self ≡ c.loop-number.number + 1 =
    omega (arith, c.in_ok-push.ensures.len, c.loop-number.invariant.count) in
    let unbegun =
    subst (λ s. is_some s.input ≡ false) (sym c.new-in-loop-number.ensures.source) c.in_ok-source.ensures in
    record {
      count = more;
      unbegun = subst (All (λ s. is_some s.source.input ≡ false)) (sym c.in_ok-push.ensures.items)
          (All-push (λ s. is_some s.source.input ≡ false) c.loop-number.seats.items
          c.new-in-loop-number.result c.loop-number.invariant.unbegun unbegun);
    }
