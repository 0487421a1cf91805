use Rattle.std.proofs.Common.{◌++◌, ◌^◌}
use Rattle.vis_kernel.specs.Sizes.{complex_of}
use Rattle.vis_kernel.specs.Kernels.{two_parts}
use Rattle.vis_shape.proofs.AddLemmas.{front_up_to}
use Rattle.vis_kernel.proofs.KernelLemmas.{first_front, second_front, third_front, all_eight}
use Rattle.vis_kernel.proofs.adding.add_eight.Goals as goal

pub add_value-requires-2-clause-sums : goal.add_value-requires-2-clause-sums
add_value-requires-2-clause-sums c =
    let v = c.args.sum in
    front_up_to c.args.out.now c.add_value.new.out (two_parts (complex_of v.xx)) 2 (2 ^ 56)
    (first_front _ _ v c.requires.room c.add_value.ensures) c.requires.sums

pub add_value-requires-3-clause-sums : goal.add_value-requires-3-clause-sums
add_value-requires-3-clause-sums c =
    let v = c.args.sum in
    front_up_to c.args.out.now c.add_value-2.new.out (two_parts (complex_of v.xx) ++ two_parts (complex_of v.xy)) 2
    (2 ^ 56) (second_front _ _ _ v c.requires.room c.add_value.ensures c.add_value-2.ensures) c.requires.sums

pub add_value-requires-4-clause-sums : goal.add_value-requires-4-clause-sums
add_value-requires-4-clause-sums c =
    let v = c.args.sum in
    front_up_to c.args.out.now c.add_value-3.new.out
    (two_parts (complex_of v.xx) ++ two_parts (complex_of v.xy) ++ two_parts (complex_of v.yx)) 2 (2 ^ 56)
    (third_front _ _ _ _ v c.requires.room c.add_value.ensures c.add_value-2.ensures c.add_value-3.ensures)
    c.requires.sums

pub returns : goal.returns
returns c = all_eight _ _ _ _ _ c.args.sum c.requires.room c.add_value.ensures c.add_value-2.ensures
    c.add_value-3.ensures c.add_value-4.ensures
