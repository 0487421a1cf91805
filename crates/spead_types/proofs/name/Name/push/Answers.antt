use Rattle.spead_types.proofs.FilledLemmas.{IsFilled-push}
use Rattle.spead_types.proofs.name.Name.push.Goals as goal

pub invariant_of-self : goal.invariant_of-self
invariant_of-self c =
    IsFilled-push 64 0 c.args.byte c.self.inside.bytes c.args.self.now c.self.inside.len c.self.invariant
    c.self.view_is c.requires
