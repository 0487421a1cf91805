-- What the status of a run tells of it.
use Rattle.std.proofs.Common.{◌≡◌, ◌≤◌, ℕ, Bool, true, false, List, get_or, Option, Some, None, refl, sym, ◌∙◌, ap, subst, arith, inl, inr}
use Rattle.std.specs.Prelude.{◌⊎◌, ◌↔◌, ◌==◌, ◌||◌, Result, Ok, Err, IsNone, option_and_then}
use Rattle.std.proofs.lemmas.Bool.{cases_lt}
use Rattle.corr_model.specs.declared.plan.Plan.{Plan}
use Rattle.corr_site.specs.Outside.{Rises, Rose}
use Rattle.corr_words.specs.declared.command.PlainWords.{PlainWords}
use Rattle.corr_words.specs.declared.command.Command.{Command}
use Rattle.corr_words.specs.declared.command.Command.TheVariants.{Plain, Correlate, Trial, Simulate, Relay, Inspect, Decode}
use Rattle.corr_settings.specs.declared.settings.Settings.{Settings as Run}
use Rattle.corr_settings.specs.declared.refusal.SetRefusal.{SetRefusal}
use Rattle.corr_cli.specs.declared.answer.Answer.{Answer}
use Rattle.corr_cli.specs.declared.answer.Answer.TheVariants.{Usage, SettingsFault, Settings, NotBegun, Sent, Summed, Simulated, SinkFault, NoMemory}
use Rattle.corr_cli.specs.Said.{AreRefused, HasRun, form_of, needs_text, of_plain, said_by}
use Rattle.corr_cli.specs.Says.{HasSaid, MayGoOn, telling_of}
use Rattle.corr_cli.specs.Texts.{Tells, code_after, code_of, unprinted, unprinted_code}
use Rattle.corr_serial.specs.Sources.{KeepsEach, AreBegun, IsLeastRise}
use Rattle.corr_serial.specs.Runs.{NoneRose}
use Rattle.corr_cli.specs.Beginning.{AloneRose}
use Rattle.corr_cli.specs.Runs.{Comes, FailedToBegin, FaultOfSource, IsRefusedAs, IsUntouched, IsWhole, OfRun, RefusedCode, RunsPlan, Seen, SentAll, SentFront, TextSeen}
use Rattle.corr_cli.proofs.SaidLemmas.{agrees, never_both, same_run, some_form}

-- the codes of a run that sent the whole output
is_whole_code : ℕ → Bool
is_whole_code n = ((n == 0) || (n == 6)) || (n == 3)

whole_code : {S : Type 0} (code : ℕ) (begun : S → Bool) (plan : Plan) (now : List S) → IsWhole code begun plan now
    → is_whole_code code ≡ true
unfolding is_whole_code
whole_code code begun plan now (inl (inl zero_is)) = ap is_whole_code zero_is
whole_code code begun plan now (inl (inr six_is)) = ap is_whole_code six_is
whole_code code begun plan now (inr three) = ap is_whole_code three.0

told_as : (code n : ℕ) → (code ≡ n) ⊎ (code ≡ n) → code ≡ n
told_as code n (inl e) = e
told_as code n (inr e) = e

-- a code is not two numbers
pub clash_at : (code m n : ℕ) {P : Type 0} → code ≡ n → code ≡ m → (m == m) ≡ true → (n == m) ≡ false → P
clash_at code m n e f holds fails =
    absurd (let h : true ≡ false = sym holds ∙ (ap (λ k. k == m) (sym f ∙ e) ∙ fails) in cc)

clash : (test : ℕ → Bool) (code n : ℕ) {P : Type 0} → code ≡ n → test code ≡ true → test n ≡ false → P
clash test code n e holds fails = absurd (let h : true ≡ false = sym holds ∙ (ap test e ∙ fails) in cc)

-- the codes 0 and 6
is_early_code : ℕ → Bool
is_early_code n = (n == 0) || (n == 6)

early_code : (code : ℕ) → (code ≡ 0) ⊎ (code ≡ 6) → is_early_code code ≡ true
unfolding is_early_code
early_code code (inl e) = ap is_early_code e
early_code code (inr e) = ap is_early_code e

-- the code of a run that sent all is none but 0, 3 and 6
not_late : (fault : Option ℕ) (code m : ℕ) {P : Type 0}
    → (code ≡ code_after fault) ⊎ (code ≡ unprinted (code_after fault)) → code ≡ m → (m == m) ≡ true → (0 == m) ≡ false
    → (3 == m) ≡ false → (6 == m) ≡ false → P
not_late None code m (inl e) f same zero_not three_not six_not = clash_at code m 0 e f same zero_not
not_late None code m (inr e) f same zero_not three_not six_not = clash_at code m 6 e f same six_not
not_late (Some a) code m (inl e) f same zero_not three_not six_not = clash_at code m 3 e f same three_not
not_late (Some a) code m (inr e) f same zero_not three_not six_not = clash_at code m 3 e f same three_not

-- a source that alone rose is the least that did
least_alone : {S : Type 0} (faults : S → ℕ) (count failed : ℕ) (old now : List S)
    → AloneRose faults count failed old now → IsLeastRise faults count failed old now
least_alone faults count failed old now h = record {
  within = h.within;
  rose = h.rose;
  before = λ a d less. h.others a d (λ e. omega arith);
  later = record {
    each = λ a d. elim (cases_lt a failed) [
      | inl less ↦ let e = h.others a d (λ e. omega arith) in omega arith
      | inr more ↦ elim (cases_lt failed a) [
        | inl less ↦ let e = h.others a d (λ e. omega arith) in omega arith
        | inr same ↦ let is : failed ≡ a =
            omega arith in subst (λ k. faults (get_or old k d) ≤ faults (get_or now k d)) is (h.rose d).later
      ]
    ];
  };
}

-- the code is the answer's, or the one where its text was not printed whole
pub told_code : (before now : Option (List ℕ)) (faults_before faults : ℕ) (answer : Answer) (code : ℕ)
    → Tells before now faults_before faults answer code → (code ≡ code_of answer) ⊎ (code ≡ unprinted_code answer)
told_code before now faults_before faults answer code (inl whole) = inl whole.code_is
told_code before now faults_before faults answer code (inr front) = inr front.code_is

-- what was sent of a plan
pub record WhatSent {S : Type 0} (plan : Plan) (seen : Seen S) : Type 0 where
  pub packets : ℕ
  pub fault : Option ℕ
  pub sent : SentAll plan seen packets fault

none_is : {A : Type 0} (o : Option A) → o ≡ None → IsNone o
none_is None h = refl
none_is (Some x) h = absurd cc

is_none_of : {A : Type 0} (o : Option A) → IsNone o → o ≡ None
is_none_of None h = refl
is_none_of (Some x) h = absurd (let e = h in cc)

has_form : (words : List (List ℕ)) (command : Command) {P : Type 0} → form_of words ≡ Some command
    → form_of words ≡ None → P
has_form words command e none = let both : Some command ≡ None = sym e ∙ none in absurd cc

-- words without a form read no text
pub no_text : (words : List (List ℕ)) → form_of words ≡ None → needs_text words ≡ false
no_text words none = rw none refl

-- a run was said where the settings are refused
not_run : (words : List (List ℕ)) (text : Option (List ℕ)) (are : AreRefused words text) (run : Run) {P : Type 0}
    → HasSaid words text (Ok run) → P
not_run words text are run said_run =
    let ok : Result Run SetRefusal = Ok run in
    let same : ok ≡ Err are.refusal = agrees words text (Ok run) (Err are.refusal) said_run are.refused in absurd cc

-- of refused settings that are not those of numbers, a text is read
from_text_by : (words : List (List ℕ)) (text : Option (List ℕ)) (c : Command) (refusal : SetRefusal)
    → form_of words ≡ Some c → said_by c text ≡ Some (Err refusal)
    → ((p : PlainWords) (r : SetRefusal) → c ≡ Plain p → of_plain p ≡ Err r → ⊥) → needs_text words ≡ true
from_text_by words text (Plain p) refusal is e accepted =
    absurd (accepted p refusal refl (let same : Some (of_plain p) ≡ Some (Err refusal) = e in cc))
from_text_by words text (Correlate config serial) refusal is e accepted = rw is refl
from_text_by words text (Trial config seed serial) refusal is e accepted = absurd cc
from_text_by words text (Simulate config seed antenna out) refusal is e accepted = absurd cc
from_text_by words text (Relay from to limit) refusal is e accepted = absurd cc
from_text_by words text (Inspect from) refusal is e accepted = absurd cc
from_text_by words text (Decode from limit) refusal is e accepted = absurd cc

from_text : (words : List (List ℕ)) (text : Option (List ℕ)) → AreRefused words text → MayGoOn words
    → needs_text words ≡ true
from_text words text are may =
    from_text_by words text may.command are.refusal may.is_form
    (sym (ap (λ o. option_and_then (λ command. said_by command text) o) may.is_form) ∙ are.refused) may.accepted

module _ {S : Type 0} (words : List (List ℕ)) (seen : Seen S) (text : TextSeen) (code : ℕ) (d : S) where
  -- a source that could not be begun, and all begun
  not_all_begun : (plan : Plan) (antenna : ℕ) {P : Type 0} → FailedToBegin plan seen antenna
      → AreBegun seen.begun plan.antennas seen.now → P
  not_all_begun plan antenna failed all =
      absurd (let e : true ≡ false = sym (all.each antenna d failed.rose.within) ∙ failed.begun.not_begun d in cc)

  -- the run that was said is the one that came to the answer
  runs_of : (answer : Answer) (run : Run) (o : OfRun words seen text answer) → HasRun words text.text run
      → RunsPlan (telling_of o.of.said.command) run.plan seen answer
  runs_of answer run o has =
      subst (λ (r : Run). RunsPlan (telling_of o.of.said.command) r.plan seen answer)
      (same_run words text.text o.of.run run o.of.said has) o.of.runs

  -- a whole run sent the output
  pub what_sent : (answer : Answer) → Comes words seen text answer
      → (code ≡ code_of answer) ⊎ (code ≡ unprinted_code answer)
      → (run : Run) → HasRun words text.text run → IsWhole code seen.begun run.plan seen.now → WhatSent run.plan seen
  unfolding is_whole_code is_early_code
  what_sent Usage comes told run has whole = some_form words text.text (Ok run) has comes.why
  what_sent SettingsFault comes told run has whole =
      clash is_whole_code code 8 (told_as code 8 told) (whole_code code seen.begun run.plan seen.now whole) refl
  what_sent (Settings refusal) comes told run has whole = never_both words text.text run refusal comes.why has
  what_sent (NotBegun antenna) comes told run has (inl early) =
      clash is_early_code code 3 (told_as code 3 told) (early_code code early) refl
  what_sent (NotBegun antenna) comes told run has (inr late) =
      not_all_begun run.plan antenna (runs_of (NotBegun antenna) run comes has) late.1
  what_sent (Sent packets fault) comes told run has whole =
      record { packets = packets; fault = fault; sent = (runs_of (Sent packets fault) run comes has).1 }
  what_sent (Summed sent reports fault) comes told run has whole =
      record { packets = sent.packets; fault = fault; sent = (runs_of (Summed sent reports fault) run comes has).1 }
  what_sent (Simulated packets) comes told run has whole = absurd comes
  what_sent SinkFault comes told run has whole =
      clash is_whole_code code 4 (told_as code 4 told) (whole_code code seen.begun run.plan seen.now whole) refl
  what_sent NoMemory comes told run has whole =
      clash is_whole_code code 5 (told_as code 5 told) (whole_code code seen.begun run.plan seen.now whole) refl

  -- at status 4 a front of the output was sent
  pub front_sent : (answer : Answer) → Comes words seen text answer
      → (code ≡ code_of answer) ⊎ (code ≡ unprinted_code answer)
      → (run : Run) → HasRun words text.text run → code ≡ 4 → SentFront run.plan seen
  front_sent SinkFault comes told run has four = runs_of SinkFault run comes has
  front_sent Usage comes told run has four = clash_at code 4 1 (told_as code 1 told) four refl refl
  front_sent SettingsFault comes told run has four = clash_at code 4 8 (told_as code 8 told) four refl refl
  front_sent (Settings refusal) comes told run has four = clash_at code 4 2 (told_as code 2 told) four refl refl
  front_sent (NotBegun antenna) comes told run has four = clash_at code 4 3 (told_as code 3 told) four refl refl
  front_sent (Sent packets fault) comes told run has four = not_late fault code 4 told four refl refl refl refl
  front_sent (Summed sent reports fault) comes told run has four = not_late fault code 4 told four refl refl refl refl
  front_sent (Simulated packets) comes told run has four = absurd comes
  front_sent NoMemory comes told run has four = clash_at code 4 5 (told_as code 5 told) four refl refl

  -- the fault of a run that sent all
  late_fault : (plan : Plan) (packets : ℕ) (fault : Option ℕ) → SentAll plan seen packets fault
      → (code ≡ code_after fault) ⊎ (code ≡ unprinted (code_after fault)) → code ≡ 3
      → FaultOfSource plan seen.begun seen.faults seen.old seen.now seen.sent_before seen.sent
  late_fault plan packets (Some antenna) sent told three = record {
    antenna = antenna;
    least = sent.least;
    unsent = λ not_all. absurd (not_all sent.all_begun.sources);
    later = λ not_all. absurd (not_all sent.all_begun.sources);
  }
  late_fault plan packets None sent (inl e) three = clash_at code 3 0 e three refl refl
  late_fault plan packets None sent (inr e) three = clash_at code 3 6 e three refl refl

  -- at status 3 the count of some source rose, the least such
  pub source_failed : (answer : Answer) → Comes words seen text answer
      → (code ≡ code_of answer) ⊎ (code ≡ unprinted_code answer)
      → (run : Run) → HasRun words text.text run → code ≡ 3
      → FaultOfSource run.plan seen.begun seen.faults seen.old seen.now seen.sent_before seen.sent
  source_failed (NotBegun antenna) comes told run has three =
      let failed : FailedToBegin run.plan seen antenna = runs_of (NotBegun antenna) run comes has in
      record {
        antenna = antenna;
        least = least_alone seen.faults run.plan.antennas antenna seen.old seen.now failed.rose;
        unsent =
            λ _. failed.quiet.nothing;
        later = λ _. failed.later;
      }
  source_failed (Sent packets fault) comes told run has three =
      late_fault run.plan packets fault (runs_of (Sent packets fault) run comes has).1 told three
  source_failed (Summed sent reports fault) comes told run has three =
      late_fault run.plan sent.packets fault (runs_of (Summed sent reports fault) run comes has).1 told three
  source_failed (Simulated packets) comes told run has three = absurd comes
  source_failed Usage comes told run has three = clash_at code 3 1 (told_as code 1 told) three refl refl
  source_failed SettingsFault comes told run has three = clash_at code 3 8 (told_as code 8 told) three refl refl
  source_failed (Settings refusal) comes told run has three = clash_at code 3 2 (told_as code 2 told) three refl refl
  source_failed SinkFault comes told run has three = clash_at code 3 4 (told_as code 4 told) three refl refl
  source_failed NoMemory comes told run has three = clash_at code 3 5 (told_as code 5 told) three refl refl

  -- at status 0 no count is greater
  quiet_late : (plan : Plan) (packets : ℕ) (fault : Option ℕ) → SentAll plan seen packets fault
      → code ≡ code_after fault → code ≡ 0
      → KeepsEach seen.faults seen.old seen.now × (seen.sink_faults ≡ seen.sink_faults_before)
  quiet_late plan packets None sent e none = (sent.least, sent.sink_kept)
  quiet_late plan packets (Some antenna) sent e none = clash_at code 0 3 e none refl refl

  pub none_failed : (answer : Answer) → Comes words seen text answer → code ≡ code_of answer → code ≡ 0
      → KeepsEach seen.faults seen.old seen.now × (seen.sink_faults ≡ seen.sink_faults_before)
      × (text.faults ≡ text.faults_before)
  none_failed (Sent packets fault) comes e none = let quiet =
      quiet_late comes.of.run.plan packets fault comes.of.runs.1 e none in (quiet.0, quiet.1, comes.calm)
  none_failed (Summed sent reports fault) comes e none = let quiet =
      quiet_late comes.of.run.plan sent.packets fault comes.of.runs.1 e none in (quiet.0, quiet.1, comes.calm)
  none_failed (Simulated packets) comes e none = absurd comes
  none_failed Usage comes e none = clash_at code 0 1 e none refl refl
  none_failed SettingsFault comes e none = clash_at code 0 8 e none refl refl
  none_failed (Settings refusal) comes e none = clash_at code 0 2 e none refl refl
  none_failed (NotBegun antenna) comes e none = clash_at code 0 3 e none refl refl
  none_failed SinkFault comes e none = clash_at code 0 4 e none refl refl
  none_failed NoMemory comes e none = clash_at code 0 5 e none refl refl

  -- where nothing stands in the way: status 0, or 5
  runs_late : (plan : Plan) (packets : ℕ) (fault : Option ℕ) → SentAll plan seen packets fault → code ≡ code_after fault
      → NoneRose plan seen.faults seen.old seen.now → (code ≡ 0) ⊎ (code ≡ 5)
  runs_late plan packets None sent e quiet = inl e
  runs_late plan packets (Some antenna) sent e quiet =
      absurd (quiet.each antenna d sent.least.within (sent.least.rose d).rose)

  pub runs_whole : (answer : Answer) → Comes words seen text answer → code ≡ code_of answer → (run : Run)
      → HasRun words text.text run → NoneRose run.plan seen.faults seen.old seen.now
      → (Rose seen.sink_faults_before seen.sink_faults → ⊥) → (Rose text.faults_before text.faults → ⊥)
      → (code ≡ 0) ⊎ (code ≡ 5)
  runs_whole (Sent packets fault) comes e run has quiet sink_quiet text_quiet =
      runs_late run.plan packets fault (runs_of (Sent packets fault) run comes has).1 e quiet
  runs_whole (Summed sent reports fault) comes e run has quiet sink_quiet text_quiet =
      runs_late run.plan sent.packets fault (runs_of (Summed sent reports fault) run comes has).1 e quiet
  runs_whole (Simulated packets) comes e run has quiet sink_quiet text_quiet = absurd comes
  runs_whole NoMemory comes e run has quiet sink_quiet text_quiet = inr e
  runs_whole Usage comes e run has quiet sink_quiet text_quiet = some_form words text.text (Ok run) has comes.why
  runs_whole SettingsFault comes e run has quiet sink_quiet text_quiet = absurd (text_quiet comes.rose.rose)
  runs_whole (Settings refusal) comes e run has quiet sink_quiet text_quiet =
      never_both words text.text run refusal comes.why has
  runs_whole (NotBegun antenna) comes e run has quiet sink_quiet text_quiet =
      let failed : FailedToBegin run.plan seen antenna = runs_of (NotBegun antenna) run comes has in
      absurd (quiet.each antenna d failed.rose.within (failed.rose.rose d).rose)
  runs_whole SinkFault comes e run has quiet sink_quiet text_quiet =
      let front : SentFront run.plan seen = runs_of SinkFault run comes has in
      absurd (sink_quiet front.sink_rose.rose)

  -- at status 4 the count of the sink rose
  pub sink_failed : (answer : Answer) → Comes words seen text answer
      → (code ≡ code_of answer) ⊎ (code ≡ unprinted_code answer) → code ≡ 4
      → Rises seen.sink_faults_before seen.sink_faults
  sink_failed SinkFault comes told four = comes.of.runs.sink_rose
  sink_failed Usage comes told four = clash_at code 4 1 (told_as code 1 told) four refl refl
  sink_failed SettingsFault comes told four = clash_at code 4 8 (told_as code 8 told) four refl refl
  sink_failed (Settings refusal) comes told four = clash_at code 4 2 (told_as code 2 told) four refl refl
  sink_failed (NotBegun antenna) comes told four = clash_at code 4 3 (told_as code 3 told) four refl refl
  sink_failed (Sent packets fault) comes told four = not_late fault code 4 told four refl refl refl refl
  sink_failed (Summed sent reports fault) comes told four = not_late fault code 4 told four refl refl refl refl
  sink_failed (Simulated packets) comes told four = absurd comes
  sink_failed NoMemory comes told four = clash_at code 4 5 (told_as code 5 told) four refl refl

  -- at status 8 the count of the settings source rose
  pub text_failed : (answer : Answer) → Comes words seen text answer
      → (code ≡ code_of answer) ⊎ (code ≡ unprinted_code answer) → code ≡ 8 → Rises text.faults_before text.faults
  text_failed SettingsFault comes told eight = comes.rose
  text_failed Usage comes told eight = clash_at code 8 1 (told_as code 1 told) eight refl refl
  text_failed (Settings refusal) comes told eight = clash_at code 8 2 (told_as code 2 told) eight refl refl
  text_failed (NotBegun antenna) comes told eight = clash_at code 8 3 (told_as code 3 told) eight refl refl
  text_failed (Sent packets fault) comes told eight = not_late fault code 8 told eight refl refl refl refl
  text_failed (Summed sent reports fault) comes told eight = not_late fault code 8 told eight refl refl refl refl
  text_failed (Simulated packets) comes told eight = absurd comes
  text_failed SinkFault comes told eight = clash_at code 8 4 (told_as code 4 told) eight refl refl
  text_failed NoMemory comes told eight = clash_at code 8 5 (told_as code 5 told) eight refl refl

  -- at status 5 nothing was begun and nothing sent
  pub nothing_begun : (answer : Answer) → Comes words seen text answer
      → (code ≡ code_of answer) ⊎ (code ≡ unprinted_code answer) → code ≡ 5
      → IsUntouched seen.old seen.now seen.sink_begun seen.sent_before seen.sent
  nothing_begun NoMemory comes told five =
      record {
        same = comes.untouched.same;
        sink_unbegun = comes.untouched.sink_unbegun;
        nothing = comes.untouched.quiet.nothing;
      }
  nothing_begun Usage comes told five = clash_at code 5 1 (told_as code 1 told) five refl refl
  nothing_begun SettingsFault comes told five = clash_at code 5 8 (told_as code 8 told) five refl refl
  nothing_begun (Settings refusal) comes told five = clash_at code 5 2 (told_as code 2 told) five refl refl
  nothing_begun (NotBegun antenna) comes told five = clash_at code 5 3 (told_as code 3 told) five refl refl
  nothing_begun (Sent packets fault) comes told five = not_late fault code 5 told five refl refl refl refl
  nothing_begun (Summed sent reports fault) comes told five = not_late fault code 5 told five refl refl refl refl
  nothing_begun (Simulated packets) comes told five = absurd comes
  nothing_begun SinkFault comes told five = clash_at code 5 4 (told_as code 4 told) five refl refl

  -- at status 2 the settings are refused
  pub refused_as : (answer : Answer) → Comes words seen text answer
      → (code ≡ code_of answer) ⊎ (code ≡ unprinted_code answer) → code ≡ 2 → IsRefusedAs words text.text
  refused_as (Settings refusal) comes told two = record { refusal = refusal; said = comes.why }
  refused_as Usage comes told two = clash_at code 2 1 (told_as code 1 told) two refl refl
  refused_as SettingsFault comes told two = clash_at code 2 8 (told_as code 8 told) two refl refl
  refused_as (NotBegun antenna) comes told two = clash_at code 2 3 (told_as code 3 told) two refl refl
  refused_as (Sent packets fault) comes told two = not_late fault code 2 told two refl refl refl refl
  refused_as (Summed sent reports fault) comes told two = not_late fault code 2 told two refl refl refl refl
  refused_as (Simulated packets) comes told two = absurd comes
  refused_as SinkFault comes told two = clash_at code 2 4 (told_as code 4 told) two refl refl
  refused_as NoMemory comes told two = clash_at code 2 5 (told_as code 5 told) two refl refl

  -- words without a form have code 1
  one_of : (answer : Answer) → Comes words seen text answer → (code ≡ code_of answer) ⊎ (code ≡ unprinted_code answer)
      → form_of words ≡ None → code ≡ 1
  one_of Usage comes told none = told_as code 1 told
  one_of SettingsFault comes told none =
      absurd (let e : needs_text words ≡ true = comes.needs in let f : false ≡ true =
      sym (no_text words none) ∙ e in cc)
  one_of (Settings refusal) comes told none = has_form words comes.why.command comes.why.is_form none
  one_of NoMemory comes told none = has_form words comes.why.command comes.why.is_form none
  one_of (NotBegun antenna) comes told none = has_form words comes.of.said.command comes.of.said.is_form none
  one_of (Sent packets fault) comes told none = has_form words comes.of.said.command comes.of.said.is_form none
  one_of (Summed sent reports fault) comes told none = has_form words comes.of.said.command comes.of.said.is_form none
  one_of (Simulated packets) comes told none = absurd comes
  one_of SinkFault comes told none = has_form words comes.of.said.command comes.of.said.is_form none

  one_only : (answer : Answer) → Comes words seen text answer → (code ≡ code_of answer) ⊎ (code ≡ unprinted_code answer)
      → code ≡ 1 → form_of words ≡ None
  one_only Usage comes told one = comes.why
  one_only SettingsFault comes told one = clash_at code 1 8 (told_as code 8 told) one refl refl
  one_only (Settings refusal) comes told one = clash_at code 1 2 (told_as code 2 told) one refl refl
  one_only (NotBegun antenna) comes told one = clash_at code 1 3 (told_as code 3 told) one refl refl
  one_only (Sent packets fault) comes told one = not_late fault code 1 told one refl refl refl refl
  one_only (Summed sent reports fault) comes told one = not_late fault code 1 told one refl refl refl refl
  one_only (Simulated packets) comes told one = absurd comes
  one_only SinkFault comes told one = clash_at code 1 4 (told_as code 4 told) one refl refl
  one_only NoMemory comes told one = clash_at code 1 5 (told_as code 5 told) one refl refl

  -- code 1 exactly where the words have no form
  pub usage_exactly : (answer : Answer) → Comes words seen text answer
      → (code ≡ code_of answer) ⊎ (code ≡ unprinted_code answer) → (code ≡ 1) ↔ IsNone (form_of words)
  usage_exactly answer comes told = (
    λ one. none_is (form_of words) (one_only answer comes told one),
    λ none. one_of answer comes told (is_none_of (form_of words) none),
  )

  -- the code where the settings are refused
  pub refused_code : (answer : Answer) → Comes words seen text answer
      → (code ≡ code_of answer) ⊎ (code ≡ unprinted_code answer) → AreRefused words text.text → RefusedCode words code
  refused_code (Settings refusal) comes told are = inl (told_as code 2 told)
  refused_code Usage comes told are = some_form words text.text (Err are.refusal) are.refused comes.why
  refused_code SettingsFault comes told are = inr (comes.needs, inr (told_as code 8 told))
  refused_code NoMemory comes told are = inr (from_text words text.text are comes.why, inl (told_as code 5 told))
  refused_code (NotBegun antenna) comes told are = not_run words text.text are comes.of.run comes.of.said
  refused_code (Sent packets fault) comes told are = not_run words text.text are comes.of.run comes.of.said
  refused_code (Summed sent reports fault) comes told are = not_run words text.text are comes.of.run comes.of.said
  refused_code (Simulated packets) comes told are = absurd comes
  refused_code SinkFault comes told are = not_run words text.text are comes.of.run comes.of.said

-- no answer's own code is 6, and none that was not printed whole has 0
never_six_after : (fault : Option ℕ) → code_after fault ≡ 6 → ⊥
never_six_after None e = clash_at 0 6 0 refl e refl refl
never_six_after (Some a) e = clash_at 3 6 3 refl e refl refl

pub never_six : (answer : Answer) → code_of answer ≡ 6 → ⊥
never_six Usage e = clash_at 1 6 1 refl e refl refl
never_six SettingsFault e = clash_at 8 6 8 refl e refl refl
never_six (Settings refusal) e = clash_at 2 6 2 refl e refl refl
never_six (NotBegun antenna) e = clash_at 3 6 3 refl e refl refl
never_six (Sent packets fault) e = never_six_after fault e
never_six (Summed sent reports fault) e = never_six_after fault e
never_six (Simulated packets) e = clash_at 0 6 0 refl e refl refl
never_six SinkFault e = clash_at 4 6 4 refl e refl refl
never_six NoMemory e = clash_at 5 6 5 refl e refl refl

never_zero_after : (fault : Option ℕ) → unprinted (code_after fault) ≡ 0 → ⊥
never_zero_after None e = clash_at 6 0 6 refl e refl refl
never_zero_after (Some a) e = clash_at 3 0 3 refl e refl refl

pub never_zero : (answer : Answer) → unprinted_code answer ≡ 0 → ⊥
never_zero Usage e = clash_at 1 0 1 refl e refl refl
never_zero SettingsFault e = clash_at 8 0 8 refl e refl refl
never_zero (Settings refusal) e = clash_at 2 0 2 refl e refl refl
never_zero (NotBegun antenna) e = clash_at 3 0 3 refl e refl refl
never_zero (Sent packets fault) e = never_zero_after fault e
never_zero (Summed sent reports fault) e = never_zero_after fault e
never_zero (Simulated packets) e = clash_at 6 0 6 refl e refl refl
never_zero SinkFault e = clash_at 4 0 4 refl e refl refl
never_zero NoMemory e = clash_at 5 0 5 refl e refl refl

done_after : (fault : Option ℕ) → unprinted (code_after fault) ≡ 6 → code_after fault ≡ 0
done_after None e = refl
done_after (Some a) e = clash_at 3 6 3 refl e refl refl

-- an answer that was not printed whole has 6 only in place of 0
done_cut : (answer : Answer) → unprinted_code answer ≡ 6 → code_of answer ≡ 0
done_cut Usage e = clash_at 1 6 1 refl e refl refl
done_cut SettingsFault e = clash_at 8 6 8 refl e refl refl
done_cut (Settings refusal) e = clash_at 2 6 2 refl e refl refl
done_cut (NotBegun antenna) e = clash_at 3 6 3 refl e refl refl
done_cut (Sent packets fault) e = done_after fault e
done_cut (Summed sent reports fault) e = done_after fault e
done_cut (Simulated packets) e = refl
done_cut SinkFault e = clash_at 4 6 4 refl e refl refl
done_cut NoMemory e = clash_at 5 6 5 refl e refl refl

-- with 0 or 6 the own code of the answer is 0
pub done_code : (answer : Answer) (code : ℕ) → (code ≡ code_of answer) ⊎ (code ≡ unprinted_code answer)
    → (code ≡ 0) ⊎ (code ≡ 6) → code_of answer ≡ 0
done_code answer code (inl own) (inl none) = sym own ∙ none
done_code answer code (inl own) (inr six) = absurd (never_six answer (sym own ∙ six))
done_code answer code (inr cut) (inl none) = absurd (never_zero answer (sym cut ∙ none))
done_code answer code (inr cut) (inr six) = done_cut answer (sym cut ∙ six)

-- at status 6 the count of the print sink rose
pub print_failed : (before now : Option (List ℕ)) (faults_before faults : ℕ) (answer : Answer) (code : ℕ)
    → Tells before now faults_before faults answer code → code ≡ 6 → Rises faults_before faults
print_failed before now faults_before faults answer code (inl whole) six =
    absurd (never_six answer (sym whole.code_is ∙ six))
print_failed before now faults_before faults answer code (inr front) six = front.rises

module _ {S : Type 0} (words : List (List ℕ)) (seen : Seen S) (text : TextSeen) (code : ℕ) (d : S) where
  -- at status 0 no count is greater, that of the print sink neither
  pub none_failed_told : (answer : Answer) → Comes words seen text answer
      → (before now : Option (List ℕ)) (faults_before faults : ℕ)
      → Tells before now faults_before faults answer code → code ≡ 0
      → KeepsEach seen.faults seen.old seen.now × (seen.sink_faults ≡ seen.sink_faults_before)
      × (faults ≡ faults_before) × (text.faults ≡ text.faults_before)
  none_failed_told answer comes before now faults_before faults (inl whole) none =
      let kept = none_failed words seen text code d answer comes whole.code_is none in
      (kept.0, kept.1, whole.faults_kept, kept.2)
  none_failed_told answer comes before now faults_before faults (inr front) none =
      absurd (never_zero answer (sym front.code_is ∙ none))

  -- where nothing stands in the way and no count rose: status 0, or 5
  pub runs_whole_told : (answer : Answer) → Comes words seen text answer
      → (before now : Option (List ℕ)) (faults_before faults : ℕ) → Tells before now faults_before faults answer code
      → (run : Run) → HasRun words text.text run → NoneRose run.plan seen.faults seen.old seen.now
      → (Rose seen.sink_faults_before seen.sink_faults → ⊥) → (Rose faults_before faults → ⊥)
      → (Rose text.faults_before text.faults → ⊥) → (code ≡ 0) ⊎ (code ≡ 5)
  runs_whole_told answer comes before now faults_before faults (inl whole) run has quiet sink_quiet
      print_quiet text_quiet =
      runs_whole words seen text code d answer comes whole.code_is run has quiet sink_quiet text_quiet
  runs_whole_told answer comes before now faults_before faults (inr front) run has quiet sink_quiet print_quiet
      text_quiet = absurd (print_quiet front.rises.rose)
