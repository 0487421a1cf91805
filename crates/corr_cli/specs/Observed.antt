-- When an observation names what the sources of a run give, and which words ask for a run in threads.
-- This project's own.
use Rattle.std.specs.Prelude.{◌≡◌, ◌<◌, ◌||◌, ◌&&◌, ℕ, Bool, false, not, List, Option, Some, Ok}
use Rattle.corr_model.specs.declared.plan.Plan.{Plan}
use Rattle.corr_model.specs.Visibilities.{Lists}
use Rattle.ant_sim.specs.Simulated.{simulated}
use Rattle.corr_words.specs.declared.command.Command.TheVariants.{Trial}
use Rattle.corr_words.specs.Forms.{needs_threads}
use Rattle.corr_settings.specs.declared.settings.Settings.{Settings}
use Rattle.corr_settings.specs.Read.{settings}
use Rattle.corr_parallel.specs.Runs.{AreObserved}
use Rattle.corr_cli.specs.Said.{HasRun}
use Rattle.corr_cli.specs.Simulating.{Simulates, names_simulated}

-- an observation names the lists of these sources: the plan is its plan, and each of the plan's sources belongs to its
-- antenna and gave nothing yet
pub record IsObserved {S : Type 0} (theirs : Plan) (belongs : S → ℕ → Type 0) (given : S → ℕ) (plan : Plan)
    (sources : List S) : Type 0 where
  pub same_plan : plan ≡ theirs
  pub are : AreObserved plan belongs given sources

-- the words and the text give a run of the observation
pub record Observes {S : Type 0} (theirs : Plan) (belongs : S → ℕ → Type 0) (given : S → ℕ) (words : List (List ℕ))
    (text : Option (List ℕ)) (sources : List S) : Type 0 where
  pub run : Settings
  pub has : HasRun words text run
  pub is : IsObserved theirs belongs given run.plan sources

-- an observation names the simulated inputs of the antennas of a plan, from a seed
pub record IsTrialOf (theirs : Plan) (list : Lists) (plan : Plan) (seed : ℕ) : Type 0 where
  pub same_plan : plan ≡ theirs
  pub lists : (a : ℕ) → a < plan.antennas → simulated plan seed a ≡ list a

-- a text that may be told says the settings
abbrev pub TextSays : Option (List ℕ) → Settings → Type 0
TextSays text run = (bytes : List ℕ) → text ≡ Some bytes → settings bytes ≡ Ok run

-- the words and the text give a trial in threads of the observation
pub record ObservesTrial (theirs : Plan) (list : Lists) (words : List (List ℕ)) (text : Option (List ℕ)) : Type 0 where
  pub config : List ℕ
  pub seed : ℕ
  pub run : Settings
  pub simulates : Simulates words text (Trial config seed false) run
  pub is : IsTrialOf theirs list run.plan seed

-- the words ask for a run over the sources in threads: those of `correlate` without the flag
abbrev pub asks_threads : List (List ℕ) → Bool
asks_threads words = needs_threads words && not (names_simulated words)

-- the words ask for a trial in threads: those of `trial` without the flag
abbrev pub asks_trial : List (List ℕ) → Bool
asks_trial words = needs_threads words && names_simulated words

-- what is sent is known: the words ask for no threads, or the observation names its lists
abbrev pub is_known : Bool → List (List ℕ) → Bool
is_known names words = not (needs_threads words) || names
