use Rattle.std.proofs.Common.{◌<◌, length, get_or, ap, arith}
use Rattle.corr_serial.proofs.SourceLemmas.{sources_as_they_were, sources_on}
use Rattle.corr_serial.proofs.ListenLemmas.{hears_among, few_in}
use Rattle.corr_serial.proofs.hearing.hear.Goals as goal

pub returns-clause-hears : goal.returns-clause-hears
returns-clause-hears g c = λ plan backend number turn state at ready.
    let S = g.S.PacketSource in
    let a = c.args.antenna in
    let value = g.B.Backend.value in
    let few = few_in value plan backend c.args.core.now number turn state a at c.requires.in_range in
    let within : a < length c.args.sources.now = let low = c.requires.in_range in let enough =
    c.requires.enough in omega (arith, low, enough) in
    hears_among value S.gives S.given S.faults plan backend c.args.sources.now _ _ c.args.core.now c.listen.new.core
    number turn state a _ _ _ _ few within (ap (get_or c.args.sources.now a) c.index-sources-antenna.is)
    c.listen.ensures.source.same_gives (c.listen.ensures.listens plan backend number turn state at ready)

pub returns-clause-sources : goal.returns-clause-sources
returns-clause-sources g c =
    let S = g.S.PacketSource in
    let a = c.args.antenna in
    let within : a < length c.args.sources.now = let low = c.requires.in_range in let enough =
    c.requires.enough in omega (arith, low, enough) in
    sources_on c.args.sources.now c.args.sources.now a _ _ within
    (ap (get_or c.args.sources.now a) c.index-sources-antenna.is) S.begun S.at S.gives S.belongs
    c.args.core.now.parts.plan.antennas c.requires.in_range
    c.listen.ensures.source
    (sources_as_they_were S.begun S.at S.gives S.belongs c.args.core.now.parts.plan.antennas c.args.sources.now
    c.requires.begun)
