use Rattle.std.proofs.Common.{arith}
use Rattle.std.proofs.lemmas.Grind.{common_steps}
use Rattle.spead_types.proofs.EntryLemmas.{first_type}
use Rattle.spead_types.proofs.entries.TypeEntriesIterator.next.Goals as goal

pub returns-clause-steps : goal.returns-clause-steps
returns-clause-steps c =
    first_type c.self.inside.rest.now c.split_at.result.0.now c.split_at.result.1.now c.args.self.now c.read_type.result
    c.self.view_is c.if-self-lt-TYPE_BYTES.false c.split_at.ensures.front c.split_at.ensures.back
    c.read_type.ensures

pub returns-clause-goes : goal.returns-clause-goes
returns-clause-goes c =
    let steps = returns-clause-steps c in
    grind (arith, common_steps)
