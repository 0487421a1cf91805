use Rattle.spead_types.specs.Filled.{no_type}
use Rattle.spead_types.proofs.FilledLemmas.{IsFilled-push}
use Rattle.spead_types.proofs.types.Types.push.Goals as goal

pub invariant_of-self : goal.invariant_of-self
invariant_of-self c =
    IsFilled-push 8 no_type c.args.entry c.self.inside.types c.args.self.now c.self.inside.len c.self.invariant
    c.self.view_is c.requires
