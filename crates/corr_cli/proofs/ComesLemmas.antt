-- What a run that was asked for comes to.
use Rattle.std.proofs.Common.{◌≡◌, ℕ, List, Option, sym, subst}
use Rattle.corr_cli.specs.declared.said.Asked.{Asked}
use Rattle.corr_cli.specs.declared.answer.Answer.{Answer}
use Rattle.corr_cli.specs.declared.answer.Answer.TheVariants.{Usage, SettingsFault, Settings, NotBegun, Sent, Summed, Simulated, SinkFault, NoMemory}
use Rattle.corr_cli.specs.Says.{IsAsked}
use Rattle.corr_cli.specs.Runs.{Comes, OfRun, RunsPlan, Seen}
use Rattle.corr_cli.proofs.SaidLemmas.{asked_may_go}

module _ {S : Type 0} (words : List (List ℕ)) (seen : Seen S) (text : Option (List ℕ)) (before now : ℕ) (asked : Asked)
    (is : IsAsked words text asked) (calm : now ≡ before) where
  of_run : (answer : Answer) → RunsPlan asked.telling asked.settings.plan seen answer
      → OfRun words seen (record { text = text; faults_before = before; faults = now }) answer
  of_run answer runs = record {
    of = record {
      run = asked.settings;
      said = is.said;
      runs = subst (λ telling. RunsPlan telling asked.settings.plan seen answer) (sym is.tells) runs;
    };
    calm = calm;
  }

  comes_by : (answer : Answer) → RunsPlan asked.telling asked.settings.plan seen answer
      → Comes words seen (record { text = text; faults_before = before; faults = now }) answer
  comes_by (Sent packets fault) runs = of_run (Sent packets fault) runs
  comes_by (Summed sent reports fault) runs = of_run (Summed sent reports fault) runs
  comes_by SinkFault runs = of_run SinkFault runs
  comes_by (NotBegun antenna) runs = of_run (NotBegun antenna) runs
  comes_by NoMemory runs =
      record { why = asked_may_go words text asked.settings is.said; untouched = runs; calm = calm }
  comes_by (Simulated packets) runs = absurd runs
  comes_by Usage runs = absurd runs
  comes_by SettingsFault runs = absurd runs
  comes_by (Settings refusal) runs = absurd runs

pub comes_of_run : {S : Type 0} (words : List (List ℕ)) (seen : Seen S) (before now : ℕ) {text : Option (List ℕ)}
    (asked : Asked) (answer : Answer) → IsAsked words text asked → now ≡ before
    → RunsPlan asked.telling asked.settings.plan seen answer
    → Comes words seen (record { text = text; faults_before = before; faults = now }) answer
comes_of_run words seen before now {text} asked answer is calm runs =
    comes_by words seen text before now asked is calm answer runs
