use Rattle.std.proofs.Common.{◌<◌, length, get_or, ap, arith}
use Rattle.corr_cli.proofs.BeginLemmas.{begins_on}
use Rattle.corr_cli.proofs.begin.begin_all.Goals as goal

pub loop-antenna-preserved : goal.loop-antenna-preserved
loop-antenna-preserved g c =
    let S = g.S.PacketSource in
    let b = c.begin.ensures in
    let lt : c.loop-antenna.antenna < length c.loop-antenna.sources = omega arith in
    let is = ap (get_or c.loop-antenna.sources c.loop-antenna.antenna) c.index-sources-antenna.is in
    begins_on S.gives S.given S.begun S.at S.belongs S.faults c.args.places.now _ _ _ _ _ c.index-places-antenna.result
    _ c.loop-antenna.invariant lt is c.loop-antenna-test.true c.index-places-antenna.is c.if-is_err.ensures.value
    b.gives b.given b.begun b.at b.belongs b.cause
