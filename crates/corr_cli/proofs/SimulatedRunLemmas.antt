-- What the status of a run over simulated inputs tells of it.
use Rattle.std.proofs.Common.{◌≡◌, ◌⊎◌, ◌↔◌, ℕ, Bool, true, false, List, Option, Some, None, refl, sym, ap, ◌∙◌, subst, arith, inl, inr}
use Rattle.std.specs.Prelude.{Result, Ok, Err, IsNone, ◌||◌, bytes_eq, codes, option_and_then, option_map}
use Rattle.corr_site.specs.Outside.{Appended, Rises, Rose}
use Rattle.corr_words.specs.declared.command.Command.{Command}
use Rattle.corr_words.specs.declared.command.Command.TheVariants.{Plain, Correlate, Trial, Simulate, Relay, Inspect, Decode}
use Rattle.corr_words.specs.Words.{word_at}
use Rattle.corr_words.specs.Forms.{form}
use Rattle.corr_settings.specs.declared.settings.Settings.{Settings as Run}
use Rattle.corr_settings.specs.declared.refusal.SetRefusal.{SetRefusal}
use Rattle.stream_feed.specs.declared.report.StreamReport.{StreamReport}
use Rattle.vis_send.specs.declared.tally.Sent.{Sent as Tally}
use Rattle.corr_cli.specs.declared.answer.Answer.{Answer}
use Rattle.corr_cli.specs.declared.answer.Answer.TheVariants.{Usage, SettingsFault, Settings, NotBegun, Sent, Summed, Simulated, SinkFault, NoMemory}
use Rattle.corr_cli.specs.Said.{AreRefused, HasRun, form_of, if_over_sources, needs_text, said, said_by}
use Rattle.corr_cli.specs.Runs.{AppendsPackets}
use Rattle.corr_cli.specs.Texts.{code_after, code_of, unprinted_code}
use Rattle.corr_cli.specs.Tools.{IsOfTool, IsUnused, PrintSeen, SinkSeen, names_tool}
use Rattle.corr_cli.specs.Simulating.{AreRefusedFor, ComesTo, ConfigSeen, Counts, IsOfSimulated, IsRefusedFor, OfSettings, SaysFor, SendsSome, SendsStrings, SimulatedRan, Simulates, WordsCome, names_simulated, settings_for, strings_of}
use Rattle.corr_cli.proofs.CauseLemmas.{done_code, never_zero, no_text, print_failed, told_code}
use Rattle.corr_cli.proofs.FormLemmas.{is_of_simulated, same_form, simulated_is_no_run}
use Rattle.corr_cli.proofs.ToolLemmas.{cut_code, is_of_tool, or_true, same_bytes}

-- what was counted of inputs that can be simulated has no fault
never_summed : (knows : Bool) (c : Command) (run : Run) (s : Tally) (r : List StreamReport) (fault : Option ℕ)
    → Counts knows c run (Summed s r fault) → fault ≡ None
never_summed knows (Trial config seed serial) run s r fault h = h.0
never_summed knows (Simulate config seed antenna out) run s r fault h = absurd h
never_summed knows (Plain p) run s r fault h = absurd h
never_summed knows (Correlate config serial) run s r fault h = absurd h
never_summed knows (Relay from to limit) run s r fault h = absurd h
never_summed knows (Inspect from) run s r fault h = absurd h
never_summed knows (Decode from limit) run s r fault h = absurd h

-- a code that is not 6 is the answer's own, or stands for one that is 0
own_code : (answer : Answer) (code n : ℕ) → (code ≡ code_of answer) ⊎ (code ≡ unprinted_code answer) → code ≡ n
    → (n ≡ 6 → ⊥) → code_of answer ≡ n
own_code answer code n (inl own) is not = sym own ∙ is
own_code answer code n (inr cut) is not = elim (cut_code (code_of answer) code cut) [
  | inl six ↦ absurd (not (sym is ∙ six.1))
  | inr other ↦ other.0 ∙ is
]

-- what is said of a text that is told is what it says
module _ (c : Command) (text : Option (List ℕ)) where
  agrees : (r s : Result Run SetRefusal) → SaysFor c text r → option_map (settings_for c) text ≡ Some s → r ≡ s
  agrees r s h e = by text refl h e
    where
      by : (o : Option (List ℕ)) → text ≡ o → SaysFor c o r → option_map (settings_for c) o ≡ Some s → r ≡ s
      by None at k f = absurd cc
      by (Some bytes) at k f = let same : Some (settings_for c bytes) ≡ Some s = f in sym k ∙ cc

  pub same_run : (run other : Run) → SaysFor c text (Ok run)
      → option_map (settings_for c) text ≡ Some (Ok other) → run ≡ other
  same_run run other h e =
      let ok : Result Run SetRefusal = Ok run in
      let same : ok ≡ Ok other = agrees (Ok run) (Ok other) h e in cc

  never_both : (run : Run) (refusal : SetRefusal) {P : Type 0} → SaysFor c text (Ok run)
      → option_map (settings_for c) text ≡ Some (Err refusal) → P
  never_both run refusal h e =
      let ok : Result Run SetRefusal = Ok run in
      let same : ok ≡ Err refusal = agrees (Ok run) (Err refusal) h e in absurd cc

  never_other : (run : Run) (refusal : SetRefusal) {P : Type 0} → SaysFor c text (Err refusal)
      → option_map (settings_for c) text ≡ Some (Ok run) → P
  never_other run refusal h e =
      let err : Result Run SetRefusal = Err refusal in
      let same : err ≡ Ok run = agrees (Err refusal) (Ok run) h e in absurd cc

module _ (knows : Bool) (c : Command) (config : ConfigSeen) (sink : SinkSeen) where
  -- the own code of inputs that were sent is 0
  summed_zero : (s : Tally) (r : List StreamReport) (fault : Option ℕ)
      → OfSettings c config (λ run. SendsStrings knows c run sink (Summed s r fault)) → code_after fault ≡ 0
  summed_zero s r fault h = ap code_after (never_summed knows c h.run s r fault h.runs.counts)

  done_sent : (answer : Answer) → ComesTo knows c config sink answer → code_of answer ≡ 0
      → OfSettings c config (λ run. SendsStrings knows c run sink answer)
  done_sent (Summed s r fault) h e = h
  done_sent (Simulated packets) h e = h
  done_sent Usage h e = absurd h
  done_sent SettingsFault h e = absurd (omega (arith, e))
  done_sent (Settings refusal) h e = absurd (omega (arith, e))
  done_sent (NotBegun antenna) h e = absurd h
  done_sent (Sent packets fault) h e = absurd h
  done_sent SinkFault h e = absurd (omega (arith, e))
  done_sent NoMemory h e = absurd (omega (arith, e))

  four_sent : (answer : Answer) → ComesTo knows c config sink answer → code_of answer ≡ 4
      → OfSettings c config (λ run. SendsSome knows c run sink)
  four_sent SinkFault h e = h
  four_sent (Summed s r fault) h e = absurd (omega (arith, e, summed_zero s r fault h))
  four_sent (Simulated packets) h e = absurd (omega (arith, e))
  four_sent Usage h e = absurd h
  four_sent SettingsFault h e = absurd (omega (arith, e))
  four_sent (Settings refusal) h e = absurd (omega (arith, e))
  four_sent (NotBegun antenna) h e = absurd h
  four_sent (Sent packets fault) h e = absurd h
  four_sent NoMemory h e = absurd (omega (arith, e))

  two_refused : (answer : Answer) → ComesTo knows c config sink answer → code_of answer ≡ 2
      → (refusal : SetRefusal) × SaysFor c config.text (Err refusal)
  two_refused (Settings refusal) h e = (refusal, h.0)
  two_refused SinkFault h e = absurd (omega (arith, e))
  two_refused (Summed s r fault) h e = absurd (omega (arith, e, summed_zero s r fault h))
  two_refused (Simulated packets) h e = absurd (omega (arith, e))
  two_refused Usage h e = absurd h
  two_refused SettingsFault h e = absurd (omega (arith, e))
  two_refused (NotBegun antenna) h e = absurd h
  two_refused (Sent packets fault) h e = absurd h
  two_refused NoMemory h e = absurd (omega (arith, e))

  eight_rose : (answer : Answer) → ComesTo knows c config sink answer → code_of answer ≡ 8
      → Rises config.faults_before config.faults
  eight_rose SettingsFault h e = h.0
  eight_rose SinkFault h e = absurd (omega (arith, e))
  eight_rose (Summed s r fault) h e = absurd (omega (arith, e, summed_zero s r fault h))
  eight_rose (Simulated packets) h e = absurd (omega (arith, e))
  eight_rose Usage h e = absurd h
  eight_rose (Settings refusal) h e = absurd (omega (arith, e))
  eight_rose (NotBegun antenna) h e = absurd h
  eight_rose (Sent packets fault) h e = absurd h
  eight_rose NoMemory h e = absurd (omega (arith, e))

  five_unused : (answer : Answer) → ComesTo knows c config sink answer → code_of answer ≡ 5 → IsUnused sink
  five_unused NoMemory h e = h.idle.unused
  five_unused SettingsFault h e = absurd (omega (arith, e))
  five_unused SinkFault h e = absurd (omega (arith, e))
  five_unused (Summed s r fault) h e = absurd (omega (arith, e, summed_zero s r fault h))
  five_unused (Simulated packets) h e = absurd (omega (arith, e))
  five_unused Usage h e = absurd h
  five_unused (Settings refusal) h e = absurd (omega (arith, e))
  five_unused (NotBegun antenna) h e = absurd h
  five_unused (Sent packets fault) h e = absurd h

  never_one : (answer : Answer) → ComesTo knows c config sink answer → code_of answer ≡ 1 → ⊥
  never_one NoMemory h e = omega (arith, e)
  never_one SettingsFault h e = omega (arith, e)
  never_one SinkFault h e = omega (arith, e)
  never_one (Summed s r fault) h e = omega (arith, e, summed_zero s r fault h)
  never_one (Simulated packets) h e = omega (arith, e)
  never_one Usage h e = absurd h
  never_one (Settings refusal) h e = omega (arith, e)
  never_one (NotBegun antenna) h e = absurd h
  never_one (Sent packets fault) h e = absurd h

  -- where nothing stands in the way and no count rose: 0 or 5
  whole_code : (run : Run) → option_map (settings_for c) config.text ≡ Some (Ok run)
      → (Rose sink.faults_before sink.faults → ⊥) → (Rose config.faults_before config.faults → ⊥)
      → (answer : Answer) → ComesTo knows c config sink answer → (code_of answer ≡ 0) ⊎ (code_of answer ≡ 5)
  whole_code run has sink_quiet text_quiet NoMemory h = inr refl
  whole_code run has sink_quiet text_quiet SettingsFault h = absurd (text_quiet h.0.rose)
  whole_code run has sink_quiet text_quiet SinkFault h = absurd (sink_quiet h.runs.rose.rose)
  whole_code run has sink_quiet text_quiet (Summed s r fault) h = inl (summed_zero s r fault h)
  whole_code run has sink_quiet text_quiet (Simulated packets) h = inl refl
  whole_code run has sink_quiet text_quiet Usage h = absurd h
  whole_code run has sink_quiet text_quiet (Settings refusal) h = never_other c config.text run refusal h.0 has
  whole_code run has sink_quiet text_quiet (NotBegun antenna) h = absurd h
  whole_code run has sink_quiet text_quiet (Sent packets fault) h = absurd h

  refused_code : (refusal : SetRefusal) → option_map (settings_for c) config.text ≡ Some (Err refusal)
      → (answer : Answer) → ComesTo knows c config sink answer
      → (code_of answer ≡ 2) ⊎ ((code_of answer ≡ 5) ⊎ (code_of answer ≡ 8))
  refused_code refusal has (Settings other) h = inl refl
  refused_code refusal has NoMemory h = inr (inl refl)
  refused_code refusal has SettingsFault h = inr (inr refl)
  refused_code refusal has SinkFault h = never_both c config.text h.run refusal h.says has
  refused_code refusal has (Summed s r fault) h = never_both c config.text h.run refusal h.says has
  refused_code refusal has (Simulated packets) h = never_both c config.text h.run refusal h.says has
  refused_code refusal has Usage h = absurd h
  refused_code refusal has (NotBegun antenna) h = absurd h
  refused_code refusal has (Sent packets fault) h = absurd h

-- a code that is not 0 is printed too
kept_code : (answer : Answer) (code n : ℕ) → (code ≡ code_of answer) ⊎ (code ≡ unprinted_code answer)
    → code_of answer ≡ n → (n ≡ 0 → ⊥) → code ≡ n
kept_code answer code n (inl own) is not = own ∙ is
kept_code answer code n (inr cut) is not = elim (cut_code (code_of answer) code cut) [
  | inl six ↦ absurd (not (sym is ∙ six.0))
  | inr other ↦ sym other.0 ∙ is
]

-- what a run's words come to, where they have a form
ran_as : (knows : Bool) (o : Option Command) (c : Command) (config : ConfigSeen) (sink : SinkSeen) (answer : Answer)
    → o ≡ Some c → WordsCome knows o config sink answer → ComesTo knows c config sink answer
ran_as knows o c config sink answer is h =
    let both : WordsCome knows (Some c) config sink answer =
    subst (λ k. WordsCome knows k config sink answer) is h in both.0

module _ (knows : Bool) (words : List (List ℕ)) (config : ConfigSeen) (sink : SinkSeen) (print : PrintSeen) (code : ℕ)
    (ran : SimulatedRan knows (form words) config sink print code) where
  told : (code ≡ code_of ran.answer) ⊎ (code ≡ unprinted_code ran.answer)
  told = told_code print.before print.now print.faults_before print.faults ran.answer code ran.told

  comes : (c : Command) → form words ≡ Some c → ComesTo knows c config sink ran.answer
  comes c is = ran_as knows (form words) c config sink ran.answer is ran.comes

  pub simulated_sent : knows ≡ true → (c : Command) (run : Run) → Simulates words config.text c run
      → (code ≡ 0) ⊎ (code ≡ 6) → Appended sink.sent_before (strings_of c run) sink.sent
  simulated_sent is c run h done =
      let all = done_sent knows c config sink ran.answer (comes c h.is_form) (done_code ran.answer code told done) in
      subst (λ r. Appended sink.sent_before (strings_of c r) sink.sent)
      (same_run c config.text all.run run all.says h.says) (all.runs.sent is)

  pub simulated_front : knows ≡ true → (c : Command) (run : Run) → Simulates words config.text c run → code ≡ 4
      → AppendsPackets sink.sent_before sink.sent (strings_of c run)
  simulated_front is c run h four =
      let some = four_sent knows c config sink ran.answer (comes c h.is_form)
      (own_code ran.answer code 4 told four (λ e. omega (arith, e))) in
      subst (λ r. AppendsPackets sink.sent_before sink.sent (strings_of c r))
      (same_run c config.text some.run run some.says h.says) (some.runs.front is)

  pub simulated_whole : (c : Command) (run : Run) → Simulates words config.text c run
      → (Rose sink.faults_before sink.faults → ⊥) → (Rose print.faults_before print.faults → ⊥)
      → (Rose config.faults_before config.faults → ⊥) → (code ≡ 0) ⊎ (code ≡ 5)
  simulated_whole c run h sink_quiet print_quiet text_quiet = elim ran.told [
    | inl whole ↦ elim (whole_code knows c config sink run h.says sink_quiet text_quiet ran.answer (comes c h.is_form)) [
      | inl none ↦ inl (whole.code_is ∙ none)
      | inr five ↦ inr (whole.code_is ∙ five)
    ]
    | inr front ↦ absurd (print_quiet front.rises.rose)
  ]

  pub simulated_refused : AreRefusedFor words config.text → (code ≡ 2) ⊎ ((code ≡ 5) ⊎ (code ≡ 8))
  simulated_refused h =
      elim (refused_code knows h.command config sink h.refusal h.refused ran.answer (comes h.command h.is_form)) [
        | inl two ↦ inl (kept_code ran.answer code 2 told two (λ e. omega (arith, e)))
        | inr later ↦ elim later [
          | inl five ↦ inr (inl (kept_code ran.answer code 5 told five (λ e. omega (arith, e))))
          | inr eight ↦ inr (inr (kept_code ran.answer code 8 told eight (λ e. omega (arith, e))))
        ]
      ]

  pub simulated_print : code ≡ 6 → Rises print.faults_before print.faults
  simulated_print six =
      print_failed print.before print.now print.faults_before print.faults ran.answer code ran.told six

-- what is seen where the words have no form
module _ (knows : Bool) (config : ConfigSeen) (sink : SinkSeen) (answer : Answer) (code : ℕ)
    (told : (code ≡ code_of answer) ⊎ (code ≡ unprinted_code answer)) where
  usage_code : WordsCome knows None config sink answer → code ≡ 1
  usage_code h = kept_code answer code 1 told (ap code_of h.0) (λ e. omega (arith, e))

  -- what the code says of whatever the words are
  usage_is : (o : Option Command) → WordsCome knows o config sink answer → (code ≡ 1) ↔ IsNone o
  usage_is None h = (λ e. refl, λ e. usage_code h)
  usage_is (Some c) h = (
    λ e. absurd (never_one knows c config sink answer h.0 (own_code answer code 1 told e (λ x. omega (arith, x)))),
    λ e. absurd cc,
  )

  code_two : (o : Option Command) → WordsCome knows o config sink answer → code ≡ 2
      → (c : Command) × ((o ≡ Some c) × ((refusal : SetRefusal) × SaysFor c config.text (Err refusal)))
  code_two None h e = absurd (omega (arith, e, usage_code h))
  code_two (Some c) h e =
      (c, (refl, two_refused knows c config sink answer h.0 (own_code answer code 2 told e (λ x. omega (arith, x)))))

  code_four : (o : Option Command) → WordsCome knows o config sink answer → code ≡ 4
      → Rises sink.faults_before sink.faults
  code_four None h e = absurd (omega (arith, e, usage_code h))
  code_four (Some c) h e =
      (four_sent knows c config sink answer h.0 (own_code answer code 4 told e (λ x. omega (arith, x)))).runs.rose

  code_eight : (o : Option Command) → WordsCome knows o config sink answer → code ≡ 8
      → Rises config.faults_before config.faults
  code_eight None h e = absurd (omega (arith, e, usage_code h))
  code_eight (Some c) h e =
      eight_rose knows c config sink answer h.0 (own_code answer code 8 told e (λ x. omega (arith, x)))

  code_five : (o : Option Command) → WordsCome knows o config sink answer → code ≡ 5 → IsUnused sink
  code_five None h e = absurd (omega (arith, e, usage_code h))
  code_five (Some c) h e =
      five_unused knows c config sink answer h.0 (own_code answer code 5 told e (λ x. omega (arith, x)))

  code_none : (o : Option Command) → WordsCome knows o config sink answer → code ≡ 0
      → (sink.faults ≡ sink.faults_before) × (config.faults ≡ config.faults_before)
  code_none None h e = absurd (omega (arith, e, usage_code h))
  code_none (Some c) h e = let all =
      done_sent knows c config sink answer h.0 (own_code answer code 0 told e (λ x. omega (arith, x))) in
      (all.runs.calm, all.calm)

module _ (knows : Bool) (words : List (List ℕ)) (config : ConfigSeen) (sink : SinkSeen) (print : PrintSeen) (code : ℕ)
    (ran : SimulatedRan knows (form words) config sink print code) where
  as_told : (code ≡ code_of ran.answer) ⊎ (code ≡ unprinted_code ran.answer)
  as_told = told_code print.before print.now print.faults_before print.faults ran.answer code ran.told

  pub simulated_usage : (code ≡ 1) ↔ IsNone (form words)
  simulated_usage = usage_is knows config sink ran.answer code as_told (form words) ran.comes

  pub simulated_settings : names_simulated words ≡ true → code ≡ 2 → IsRefusedFor words config.text
  simulated_settings named two =
      let (c, (is, (refusal, says))) = code_two knows config sink ran.answer code as_told (form words) ran.comes two in
      record {
        command = c;
        refusal = refusal;
        is_form = is;
        is_simulated = is_of_simulated words c named is;
        says = says;
      }

  pub simulated_sink : code ≡ 4 → Rises sink.faults_before sink.faults
  simulated_sink = code_four knows config sink ran.answer code as_told (form words) ran.comes

  pub simulated_text : code ≡ 8 → Rises config.faults_before config.faults
  simulated_text = code_eight knows config sink ran.answer code as_told (form words) ran.comes

  pub simulated_out : code ≡ 5 → IsUnused sink
  simulated_out = code_five knows config sink ran.answer code as_told (form words) ran.comes

  pub simulated_done : code ≡ 0
      → (sink.faults ≡ sink.faults_before) × (print.faults ≡ print.faults_before)
      × (config.faults ≡ config.faults_before)
  simulated_done none =
      let calm = code_none knows config sink ran.answer code as_told (form words) ran.comes none in
      elim ran.told [
        | inl whole ↦ (calm.0, whole.faults_kept, calm.1)
        | inr front ↦ absurd (never_zero ran.answer (sym front.code_is ∙ none))
      ]

-- words over simulated inputs say no run over the sources
module _ (words : List (List ℕ)) (simulator : names_simulated words ≡ true) where
  no_form : form_of words ≡ None
  no_form = simulated_is_no_run words simulator

  nothing_said : (text : Option (List ℕ)) → said words text ≡ None
  nothing_said text = ap (option_and_then (λ command. said_by command text)) no_form

  pub no_run : (text : Option (List ℕ)) (run : Run) {P : Type 0} → HasRun words text run → P
  no_run text run has =
      let given : Option (Result Run SetRefusal) = Some (Ok run) in
      let clash : None ≡ given = sym (nothing_said text) ∙ has in absurd cc

  pub no_refusal : (text : Option (List ℕ)) {P : Type 0} → AreRefused words text → P
  no_refusal text are =
      let given : Option (Result Run SetRefusal) = Some (Err are.refusal) in
      let clash : None ≡ given = sym (nothing_said text) ∙ are.refused in absurd cc

  pub no_text_read : {P : Type 0} → needs_text words ≡ true → P
  no_text_read needs = let clash : false ≡ true = sym (no_text words no_form) ∙ needs in absurd cc

  pub no_correlate : (config : List ℕ) (serial : Bool) {P : Type 0} → form_of words ≡ Some (Correlate config serial) → P
  no_correlate config serial is = let clash : None ≡ Some (Correlate config serial) = sym no_form ∙ is in absurd cc

-- a command that correlates the sources, or one of a tool, is none over simulated inputs
never_over : (c : Command) {P : Type 0} → if_over_sources c ≡ Some c → IsOfSimulated c → P
never_over (Trial config seed serial) e h = absurd cc
never_over (Simulate config seed antenna out) e h = absurd cc
never_over (Plain p) e h = absurd h
never_over (Correlate config serial) e h = absurd h
never_over (Relay from to limit) e h = absurd h
never_over (Inspect from) e h = absurd h
never_over (Decode from limit) e h = absurd h

never_tool : (c : Command) {P : Type 0} → IsOfTool c → IsOfSimulated c → P
never_tool (Trial config seed serial) t h = absurd t
never_tool (Simulate config seed antenna out) t h = absurd t
never_tool (Plain p) t h = absurd h
never_tool (Correlate config serial) t h = absurd h
never_tool (Relay from to limit) t h = absurd h
never_tool (Inspect from) t h = absurd h
never_tool (Decode from limit) t h = absurd h

-- other words, and those of a tool, ask for nothing simulated
pub other_not : (words : List (List ℕ)) (c : Command) {P : Type 0} → names_tool words ≡ false
    → names_simulated words ≡ false → form words ≡ Some c → IsOfSimulated c → P
other_not words c tool simulator is h =
    let built : option_and_then if_over_sources (Some c) ≡ Some c =
    sym (ap (option_and_then if_over_sources) is) ∙ (same_form words tool simulator ∙ is) in
    never_over c built h

pub tool_not : (words : List (List ℕ)) (c : Command) {P : Type 0} → names_tool words ≡ true → form words ≡ Some c
    → IsOfSimulated c → P
tool_not words c tool is h = never_tool c (is_of_tool words c tool is) h

-- a word is not the name of a tool and of a command over simulated inputs
pub named_once : (word name : List ℕ) → bytes_eq word name ≡ true
    → (bytes_eq name (codes "trial") || bytes_eq name (codes "simulate")) ≡ false
    → (bytes_eq word (codes "trial") || bytes_eq word (codes "simulate")) ≡ false
named_once word name is other =
    subst (λ k. (bytes_eq k (codes "trial") || bytes_eq k (codes "simulate")) ≡ false)
    (sym (same_bytes word name is)) other

pub tool_simulates_not : (words : List (List ℕ)) {P : Type 0} → names_tool words ≡ true
    → names_simulated words ≡ true → P
tool_simulates_not words tool simulator =
    let word = word_at words 1 in
    let none : names_simulated words ≡ false =
    elim (or_true (bytes_eq word (codes "relay"))
    (bytes_eq word (codes "inspect") || bytes_eq word (codes "decode")) tool) [
      | inl is ↦ named_once word (codes "relay") is refl
      | inr others ↦ elim (or_true (bytes_eq word (codes "inspect")) (bytes_eq word (codes "decode")) others) [
        | inl is ↦ named_once word (codes "inspect") is refl
        | inr is ↦ named_once word (codes "decode") is refl
      ]
    ] in
    absurd (let clash : false ≡ true = sym none ∙ simulator in cc)
