use Rattle.std.proofs.Common.{◌≤◌, length, ap, arith}
use Rattle.spead_types.proofs.WrittenLemmas.{room_behind}
use Rattle.spead_types.proofs.writing.payload_of.Goals as goal

pub put_shape-requires : goal.put_shape-requires
put_shape-requires c =
    let name = c.as_slice.result.now in
    let types = c.as_slice-2.result.now in
    let few_name : length name ≤ 64 = omega (arith, c.as_slice.ensures.few, ap length c.as_slice.ensures.value) in
    let few_types : length types ≤ 8 = omega (arith, c.as_slice-2.ensures.few, ap length c.as_slice-2.ensures.value) in
    let few_dims : length c.as_slice-3.result.now ≤ 8 =
    omega (arith, c.as_slice-3.ensures.few, ap length c.as_slice-3.ensures.value) in
    let room = room_behind name types c.new-payload.result c.put.new.self c.put_types.new.draft c.new-payload.ensures
    c.put.ensures c.put_types.ensures few_name few_types in
    omega (arith, room, few_dims)
