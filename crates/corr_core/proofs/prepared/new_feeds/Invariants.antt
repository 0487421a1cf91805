use Rattle.std.specs.Vec.{vec_len, vec_capacity}
use Rattle.corr_core.specs.New.{IsNewFeed}
use Rattle.corr_core.proofs.NewLemmas.{BuiltTo}
use Rattle.corr_core.proofs.prepared.new_feeds.Given as goal

abbrev pub invariant-loop-antenna : goal.invariant-loop-antenna
invariant-loop-antenna g l =
    BuiltTo (IsNewFeed l.plan) l.plan.antennas l.feeds.items (vec_len l.feeds) (vec_capacity l.feeds) l.antenna
