-- A run of an observation: what is known of it, and that what was sent is the output of the observation's lists.
use Rattle.std.proofs.Common.{◌≡◌, ◌<◌, ◌+◌, ℕ, Bool, true, false, List, [], length, map, get_or, Option, Some, refl, sym, ap, ◌∙◌, subst, arith, inl, inr}
use Rattle.std.proofs.lemmas.List.{length-map}
use Rattle.std.specs.Prelude.{Ok, ◌||◌, ◌&&◌, not, bytes_eq, codes}
use Rattle.corr_model.specs.declared.plan.Plan.{Plan}
use Rattle.corr_model.specs.Lists.{numbers}
use Rattle.corr_model.specs.Outputs.{output}
use Rattle.corr_model.specs.Visibilities.{Lists}
use Rattle.corr_model.proofs.CountedLists.{length-numbers}
use Rattle.stream_feed.proofs.ColumnLemmas.{get_or_mapped}
use Rattle.corr_serial.specs.Sources.{KeepsEach, KeepsBelonging}
use Rattle.corr_serial.specs.Runs.{AreGiven, GaveTaken, known, list_of}
use Rattle.corr_parallel.proofs.OutputLemmas.{same_output}
use Rattle.ant_sim.specs.Simulated.{simulated}
use Rattle.corr_words.specs.Words.{takes_flag, word_at}
use Rattle.corr_words.specs.declared.command.Command.{Command}
use Rattle.corr_words.specs.declared.command.Command.TheVariants.{Trial}
use Rattle.corr_words.specs.Forms.{form, needs_threads}
use Rattle.corr_settings.specs.declared.settings.Settings.{Settings}
use Rattle.corr_cli.specs.Simulating.{IsTrial, names_simulated}
use Rattle.corr_cli.specs.Tools.{names_tool}
use Rattle.corr_cli.specs.Observed.{IsObserved, IsTrialOf, ObservesTrial, TextSays, asks_threads, asks_trial, is_known}
use Rattle.corr_cli.proofs.FormLemmas.{is_trial}
use Rattle.corr_cli.proofs.SimulatedLemmas.{says_ok}
use Rattle.corr_cli.proofs.SimulatedRunLemmas.{named_once, same_run, tool_simulates_not}
use Rattle.corr_cli.proofs.ToolLemmas.{or_true, same_bytes}

pub known_same : {S A : Type 0} {told : S → Option A} {old now : List S} (b : Bool) → KeepsEach told old now
    → KeepsEach (known b told) old now
known_same true h = record { each = h.each }
known_same false h = record { each = λ a d. refl }

pub still_observed : {S : Type 0} {theirs plan : Plan} {belongs : S → ℕ → Type 0} {given : S → ℕ} {old now : List S}
    → KeepsBelonging belongs old now → KeepsEach given old now
    → IsObserved theirs belongs given plan old → IsObserved theirs belongs given plan now
still_observed belong given h = record {
  same_plan = h.same_plan;
  are = record {
    belong = λ a d within. belong.each a d a (h.are.belong a d within);
    none_given = λ a d within. given.each a d ∙ h.are.none_given a d within;
  };
}

first_of : (a b : Bool) → (a && b) ≡ true → a ≡ true
first_of true b h = refl
first_of false b h = absurd cc

second_of : (a b : Bool) → (a && b) ≡ true → b ≡ true
second_of true b h = h
second_of false b h = absurd cc

not_so : (b : Bool) → not b ≡ true → b ≡ false
not_so true h = absurd cc
not_so false h = refl

both_of : (a b : Bool) → a ≡ true → (a && not b) ≡ false → (a && b) ≡ true
both_of true true e h = refl
both_of true false e h = absurd cc
both_of false b e h = absurd cc

tool_once : (word name : List ℕ) → bytes_eq word name ≡ true
    → (bytes_eq name (codes "relay") || (bytes_eq name (codes "inspect") || bytes_eq name (codes "decode"))) ≡ false
    → (bytes_eq word (codes "relay") || (bytes_eq word (codes "inspect") || bytes_eq word (codes "decode"))) ≡ false
tool_once word name is other =
    subst (λ k. (bytes_eq k (codes "relay") || (bytes_eq k (codes "inspect") || bytes_eq k (codes "decode"))) ≡ false)
    (sym (same_bytes word name is)) other

-- words that ask for threads name no tool, and no command over simulated inputs
pub threads_no_tool : (words : List (List ℕ)) → asks_threads words ≡ true → names_tool words ≡ false
threads_no_tool words asks =
    let word = word_at words 1 in
    let takes : takes_flag word ≡ true =
    first_of _ _ (first_of (needs_threads words) (not (names_simulated words)) asks) in
    elim (or_true (bytes_eq word (codes "correlate")) (bytes_eq word (codes "trial")) takes) [
      | inl is ↦ tool_once word (codes "correlate") is refl
      | inr is ↦ tool_once word (codes "trial") is refl
    ]

pub threads_no_simulated : (words : List (List ℕ)) → asks_threads words ≡ true → names_simulated words ≡ false
threads_no_simulated words asks =
    not_so (names_simulated words) (second_of (needs_threads words) (not (names_simulated words)) asks)

-- words that ask for threads: what is sent is known where the observation names its lists
threads_known : (names : Bool) (words : List (List ℕ)) → needs_threads words ≡ true → is_known names words ≡ names
threads_known names words threads = ap (λ b. not b || names) threads

pub known_as : (names : Bool) (words : List (List ℕ)) → asks_threads words ≡ true → is_known names words ≡ names
known_as names words asks =
    threads_known names words (first_of (needs_threads words) (not (names_simulated words)) asks)

pub trial_known_as : (names : Bool) (words : List (List ℕ)) → asks_trial words ≡ true → is_known names words ≡ names
trial_known_as names words asks =
    threads_known names words (first_of (needs_threads words) (names_simulated words) asks)

-- words that ask for none: it is known
pub known_alone : (names : Bool) (words : List (List ℕ)) → needs_threads words ≡ false → is_known names words ≡ true
known_alone names words none = ap (λ b. not b || names) none

-- words that ask for threads, but not over the sources, ask for a trial
pub asks_other : (words : List (List ℕ)) → asks_threads words ≡ false → needs_threads words ≡ true
    → asks_trial words ≡ true
asks_other words over threads = both_of (needs_threads words) (names_simulated words) threads over

pub asks_simulated : (words : List (List ℕ)) → asks_threads words ≡ false → needs_threads words ≡ true
    → names_simulated words ≡ true
asks_simulated words over threads =
    second_of (needs_threads words) (names_simulated words) (asks_other words over threads)

pub trial_simulated : (words : List (List ℕ)) → asks_trial words ≡ true → names_simulated words ≡ true
trial_simulated words asks = second_of (needs_threads words) (names_simulated words) asks

-- the command of words that ask for a trial in threads is `trial`
pub asked_trial : (words : List (List ℕ)) (c : Command) → asks_trial words ≡ true → form words ≡ Some c → IsTrial c
asked_trial words c asks e =
    let word = word_at words 1 in
    elim (or_true (bytes_eq word (codes "correlate")) (bytes_eq word (codes "trial"))
    (first_of _ _ (first_of (needs_threads words) (names_simulated words) asks))) [
      | inl is ↦ absurd (let clash : true ≡ false =
          sym (trial_simulated words asks) ∙ named_once word (codes "correlate") is refl in cc)
      | inr is ↦ is_trial words c is e
    ]

pub trial_no_tool : (words : List (List ℕ)) → asks_trial words ≡ true → names_tool words ≡ false
trial_no_tool words asks = by (names_tool words) refl
  where
    by : (b : Bool) → names_tool words ≡ b → names_tool words ≡ false
    by false e = e
    by true e = tool_simulates_not words e (trial_simulated words asks)

-- other words ask for no trial
pub never_trial : (words : List (List ℕ)) {P : Type 0} → needs_threads words ≡ false → asks_trial words ≡ true → P
never_trial words none asks =
    absurd (let e : true ≡ false = sym (first_of (needs_threads words) (names_simulated words) asks) ∙ none in cc)

pub over_no_trial : (words : List (List ℕ)) {P : Type 0} → asks_threads words ≡ true → asks_trial words ≡ true → P
over_no_trial words over asks =
    absurd (let e : true ≡ false = sym (trial_simulated words asks) ∙ threads_no_simulated words over in cc)

module _ {S : Type 0} (plan : Plan) (gives : S → Option (List (List ℕ))) (given : S → ℕ) where
  pub known_given : (b : Bool) (old : List S) (lists : List (List (List ℕ))) → b ≡ true
      → AreGiven plan gives given old lists → AreGiven plan (known b gives) given old lists
  known_given true old lists e h = h
  known_given false old lists e h = absurd cc

  pub known_taken : (b : Bool) (old now : List S) → b ≡ true → GaveTaken plan (known b gives) given old now
      → GaveTaken plan gives given old now
  known_taken true old now e h = h
  known_taken false old now e h = absurd cc

-- the observation's lists, one for each antenna of a plan
pub named_lists : Plan → Lists → List (List (List ℕ))
named_lists plan list = map list (numbers 0 plan.antennas)

named_at : (plan : Plan) (list : Lists) (a : ℕ) → a < plan.antennas → get_or (named_lists plan list) a [] ≡ list a
unfolding named_lists
named_at plan list a within =
    get_or_mapped list 0 plan.antennas a [] within ∙ ap list (let e : 0 + a ≡ a = omega arith in e)

-- the sources of an observation give its lists
pub named_given : {S : Type 0} (theirs plan : Plan) (list : Lists) (gives : S → Option (List (List ℕ)))
    (belongs : S → ℕ → Type 0) (given : S → ℕ) (sources : List S)
    → ((s : S) (a : ℕ) → belongs s a → gives s ≡ Some (list a)) → IsObserved theirs belongs given plan sources
    → AreGiven plan gives given sources (named_lists plan list)
unfolding named_lists
named_given theirs plan list gives belongs given sources tells is = record {
  as_many = length-map (numbers 0 plan.antennas) list ∙ length-numbers 0 plan.antennas;
  told = λ a d within.
      tells (get_or sources a d) a (is.are.belong a d within) ∙ ap Some (sym (named_at plan list a within));
  none_given = is.are.none_given;
}

-- their output is that of the observation
pub named_output : (theirs plan : Plan) (list : Lists) → plan ≡ theirs
    → output plan (list_of (named_lists plan list)) ≡ output theirs list
named_output theirs plan list same =
    same_output plan (list_of (named_lists plan list)) list (named_at plan list) ∙ ap (λ p. output p list) same

pub threads_never_tool : (words : List (List ℕ)) {P : Type 0} → asks_threads words ≡ true → names_tool words ≡ true → P
threads_never_tool words asks named = absurd (let e : true ≡ false = sym named ∙ threads_no_tool words asks in cc)

pub threads_never_simulated : (words : List (List ℕ)) {P : Type 0} → asks_threads words ≡ true
    → names_simulated words ≡ true → P
threads_never_simulated words asks named =
    absurd (let e : true ≡ false = sym named ∙ threads_no_simulated words asks in cc)

-- a trial that the words and the text say is the observation's
pub trial_observed : (theirs : Plan) (list : Lists) (words : List (List ℕ)) (text : Option (List ℕ)) (command : Command)
    → form words ≡ Some command → ObservesTrial theirs list words text
    → (config : List ℕ) (seed : ℕ) (serial : Bool) (run : Settings) → command ≡ Trial config seed serial
    → TextSays text run → IsTrialOf theirs list run.plan seed
trial_observed theirs list words text command is o config seed serial run trial says =
    let both : Some command ≡ Some (Trial o.config o.seed false) = sym is ∙ o.simulates.is_form in
    let seeds : o.seed ≡ seed = cc in
    let own = Trial o.config o.seed false in
    let runs : run ≡ o.run = same_run own text run o.run (says_ok own text run (Ok run) says refl) o.simulates.says in
    subst (λ n. IsTrialOf theirs list run.plan n) seeds
    (subst (λ r. IsTrialOf theirs list r.plan o.seed) (sym runs) o.is)

-- what a trial of the observation sends is its output
pub trial_output : (theirs : Plan) (list : Lists) (plan : Plan) (seed : ℕ) → IsTrialOf theirs list plan seed
    → output plan (simulated plan seed) ≡ output theirs list
trial_output theirs list plan seed is =
    same_output plan (simulated plan seed) list is.lists ∙ ap (λ p. output p list) is.same_plan
