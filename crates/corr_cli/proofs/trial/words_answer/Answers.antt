use Rattle.std.proofs.Common.{map, refl, ap}
use Rattle.std.specs.Prelude.{is_some, string_bytes}
use Rattle.corr_words.specs.Forms.{form}
use Rattle.corr_cli.proofs.SaidLemmas.{none_of_memory}
use Rattle.corr_cli.proofs.SimulatedLemmas.{words_out, words_some}
use Rattle.corr_cli.proofs.ThreadLemmas.{asked_trial, trial_observed}
use Rattle.corr_cli.proofs.trial.words_answer.Goals as goal

pub run_trial-requires-clause-trial : goal.run_trial-requires-clause-trial
run_trial-requires-clause-trial g c =
    λ lifetimes outlives.
    asked_trial (map string_bytes c.args.words.now) c.in-Ok.command c.requires.trial c.in-Ok.ensures.form

pub run_trial-requires-clause-observed : goal.run_trial-requires-clause-observed
run_trial-requires-clause-observed g c =
    λ lifetimes outlives named config seed serial run is says.
    let O = g.O.Observation in
    let words = map string_bytes c.args.words.now in
    let watched = c.requires.observed named (ap is_some c.in-Ok.ensures.form) in
    trial_observed O.plan O.list words _ c.in-Ok.command c.in-Ok.ensures.form watched config seed serial run is says

pub returns-in-Ok-clause-comes : goal.returns-in-Ok-clause-comes
returns-in-Ok-clause-comes g c =
    words_some _ (form (map string_bytes c.args.words.now)) _ _ c.in-Ok.command c.run_trial.result c.in-Ok.ensures.form
    c.run_trial.ensures.comes c.run_trial.ensures.at

pub returns-in-Err-NoMemory-clause-comes : goal.returns-in-Err-NoMemory-clause-comes
returns-in-Err-NoMemory-clause-comes g c =
    words_out _ (form (map string_bytes c.args.words.now)) _ _
    (none_of_memory _ _ c.in-Err-NoMemory.ensures.form c.in-Err-NoMemory.field-0-is) c.requires.settings
    (record { idle = record { unused = record { unbegun = c.requires.sink; quiet = refl }; calm = refl }; calm = refl })
