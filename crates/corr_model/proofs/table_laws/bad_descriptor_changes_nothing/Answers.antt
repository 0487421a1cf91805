use Rattle.corr_model.proofs.TableLaws.{bad_count_push, bad_keeps_entries, bad_keeps_ids}
use Rattle.corr_model.proofs.table_laws.bad_descriptor_changes_nothing.Goals as goal

pub returns-clause-counted : goal.returns-clause-counted
returns-clause-counted c = bad_count_push

pub returns-clause-ids : goal.returns-clause-ids
returns-clause-ids c = bad_keeps_ids

pub returns-clause-entries : goal.returns-clause-entries
returns-clause-entries c = bad_keeps_entries
