use Rattle.spead_types.proofs.ReadLemmas.{read_found}
use Rattle.spead_types.proofs.reading.read_descriptor.Goals as goal

pub returns-in-Ok : goal.returns-in-Ok
returns-in-Ok c = read_found c.args.bytes.now c.in-Ok.packet c.read_packet.result c.in-Ok.ensures.found
    c.read_packet.ensures
