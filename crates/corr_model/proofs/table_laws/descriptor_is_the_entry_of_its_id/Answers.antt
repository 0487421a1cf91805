use Rattle.corr_model.proofs.TableLaws.{good_adds_id, good_is_entry, others_keep_entries}
use Rattle.corr_model.proofs.table_laws.descriptor_is_the_entry_of_its_id.Goals as goal

pub returns-clause-ids : goal.returns-clause-ids
returns-clause-ids c = good_adds_id

pub returns-clause-own : goal.returns-clause-own
returns-clause-own c = good_is_entry

pub returns-clause-others : goal.returns-clause-others
returns-clause-others c = others_keep_entries
