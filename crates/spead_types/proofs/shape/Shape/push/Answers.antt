use Rattle.corr_model.specs.declared.item.Dim.TheVariants.{Variable}
use Rattle.spead_types.proofs.FilledLemmas.{IsFilled-push}
use Rattle.spead_types.proofs.shape.Shape.push.Goals as goal

pub invariant_of-self : goal.invariant_of-self
invariant_of-self c =
    IsFilled-push 8 Variable c.args.dim c.self.inside.dims c.args.self.now c.self.inside.len c.self.invariant
    c.self.view_is c.requires
