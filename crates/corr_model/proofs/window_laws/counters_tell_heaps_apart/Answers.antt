use Rattle.std.proofs.Common.{◌≤◌, sym, subst}
use Rattle.corr_model.proofs.WindowLawsHeaps.{counters_are, as_many, few_last, opens_where_none, counters_apart}
use Rattle.corr_model.proofs.window_laws.counters_tell_heaps_apart.Goals as goal

pub returns-clause-counters : goal.returns-clause-counters
returns-clause-counters c = λ window hs h stands. counters_are window _ hs _ stands

pub returns-clause-few : goal.returns-clause-few
returns-clause-few c =
    λ window hs h stands. subst (λ n. n ≤ window) (sym (as_many window _ hs _ stands)) (few_last window _)

pub returns-clause-opens : goal.returns-clause-opens
returns-clause-opens c = λ window hs h p stands. opens_where_none window _ p hs stands

pub returns-clause-apart : goal.returns-clause-apart
returns-clause-apart c = λ window h. counters_apart window h
