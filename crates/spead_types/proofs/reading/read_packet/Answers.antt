use Rattle.std.proofs.lemmas.Result.{err_from_is_err_and}
use Rattle.spead_types.proofs.ReadLemmas.{group_refused, group_read}
use Rattle.spead_types.proofs.reading.read_packet.Goals as goal

pub returns-in_err-id : goal.returns-in_err-id
returns-in_err-id c =
    let given = err_from_is_err_and c.from_residual.result c.from_residual.ensures.1 in
    rw (given.1, given.2)
    (group_refused c.args.packet.now c.number.result c.content-shape.result.now c.content-types.result.now
    c.in_err-id.field-0.0
    (record {
      number_is = c.number.ensures;
      shape_is = c.content-shape.ensures;
      types_is = c.content-types.ensures;
    }) c.in_err-id.ensures.found)

pub returns : goal.returns
returns c =
    group_read c.args.packet.now c.number.result c.content-shape.result.now c.content-types.result.now
    c.content.result.now c.in_ok-id.id c.read_shape.result c.read_types.result c.read_name.result
    (record {
      number_is = c.number.ensures;
      shape_is = c.content-shape.ensures;
      types_is = c.content-types.ensures;
    }) c.in_ok-id.ensures.found c.in_ok-id.ensures.id
    c.read_shape.ensures c.read_types.ensures c.read_name.ensures c.content.ensures
