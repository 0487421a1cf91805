use Rattle.corr_model.proofs.AssemblyLawsWhole.{heard_ends_within, member_ends_within}
use Rattle.corr_model.proofs.assembly_laws.packets_end_within_their_sizes.Goals as goal

pub returns-clause-heard : goal.returns-clause-heard
returns-clause-heard c = heard_ends_within

pub returns-clause-members : goal.returns-clause-members
returns-clause-members c = member_ends_within
