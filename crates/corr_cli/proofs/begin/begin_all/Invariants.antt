use Rattle.corr_cli.proofs.BeginLemmas.{HasBegun}
use Rattle.corr_cli.proofs.begin.begin_all.Given as goal

abbrev pub invariant-loop-antenna : goal.invariant-loop-antenna
invariant-loop-antenna g l =
    let S = g.S.PacketSource in
    HasBegun S.gives S.given S.begun S.at S.belongs S.faults l.places l.initial.sources l.sources l.antenna
