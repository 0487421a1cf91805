use Rattle.std.proofs.Common.{ap, ◌∙◌, arith}
use Rattle.corr_model.specs.Descriptors.{described_in}
use Rattle.spead_types.proofs.WrittenLemmas.{packet_is, packet_length, read_back}
use Rattle.spead_types.proofs.writing.write_descriptor.Goals as goal

pub encode_into-requires-clause-room : goal.encode_into-requires-clause-room
encode_into-requires-clause-room c =
    let long = packet_length c.args.descriptor.now c.pointers_of.result c.as_slice-bytes.result.now
    c.pointers_of.ensures (c.as_slice-bytes.ensures.value ∙ c.payload_of-payload.ensures) in
    omega (arith, long, c.requires.room)

pub returns-clause-written : goal.returns-clause-written
returns-clause-written c =
    c.encode_into.ensures.bytes
    ∙ packet_is c.args.descriptor.now c.pointers_of.result c.as_slice-bytes.result.now c.pointers_of.ensures
    (c.as_slice-bytes.ensures.value ∙ c.payload_of-payload.ensures)

pub returns-clause-len : goal.returns-clause-len
returns-clause-len c =
    c.encode_into.ensures.length
    ∙ packet_length c.args.descriptor.now c.pointers_of.result c.as_slice-bytes.result.now c.pointers_of.ensures
    (c.as_slice-bytes.ensures.value ∙ c.payload_of-payload.ensures)

pub returns-clause-read_back : goal.returns-clause-read_back
returns-clause-read_back c =
    ap described_in (returns-clause-written c) ∙ read_back c.args.descriptor.now c.requires.valid
