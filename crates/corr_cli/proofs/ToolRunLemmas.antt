-- A run of a tool, seen from the top call: nothing is said of the runs that correlate, and one source changes.
use Rattle.std.proofs.Common.{◌≡◌, ◌<◌, ◌↔◌, ℕ, Bool, true, false, List, length, get_or, set, Option, Some, None, refl, sym, ap, ◌∙◌, arith, inl, inr}
use Rattle.std.specs.Prelude.{Result, Ok, Err, IsNone, option_and_then}
use Rattle.std.proofs.lemmas.List.{get_or_default, get_or-set_same, set-get_or}
use Rattle.corr_site.specs.Outside.{Rises}
use Rattle.corr_words.specs.declared.command.Command.{Command}
use Rattle.corr_words.specs.declared.command.Command.TheVariants.{Correlate}
use Rattle.corr_settings.specs.declared.settings.Settings.{Settings}
use Rattle.corr_settings.specs.declared.refusal.SetRefusal.{SetRefusal}
use Rattle.corr_serial.specs.Sources.{AreSameFrom, KeepsEach}
use Rattle.corr_cli.specs.Said.{AreRefused, HasRun, form_of, needs_text, said, said_by}
use Rattle.corr_cli.specs.Tools.{IsUnused, PrintSeen, SinkSeen, SourceSeen, ToolRan, names_tool}
use Rattle.corr_cli.proofs.BeginLemmas.{keeps_set, same_from_set}
use Rattle.corr_cli.proofs.CauseLemmas.{no_text}
use Rattle.corr_cli.proofs.ToolLemmas.{ToolEffects, tool_effects, tool_is_no_run}

module _ (words : List (List ℕ)) (tool : names_tool words ≡ true) where
  pub no_form : form_of words ≡ None
  no_form = tool_is_no_run words tool

  nothing_said : (text : Option (List ℕ)) → said words text ≡ None
  nothing_said text = ap (option_and_then (λ command. said_by command text)) no_form

  pub no_run : (text : Option (List ℕ)) (run : Settings) {P : Type 0} → HasRun words text run → P
  no_run text run has =
      let told : Option (Result Settings SetRefusal) = Some (Ok run) in
      let clash : None ≡ told = sym (nothing_said text) ∙ has in absurd cc

  pub no_refusal : (text : Option (List ℕ)) {P : Type 0} → AreRefused words text → P
  no_refusal text are =
      let told : Option (Result Settings SetRefusal) = Some (Err are.refusal) in
      let clash : None ≡ told = sym (nothing_said text) ∙ are.refused in absurd cc

  pub no_text_read : {P : Type 0} → needs_text words ≡ true → P
  no_text_read needs = let clash : false ≡ true = sym (no_text words no_form) ∙ needs in absurd cc

  pub no_correlate : (config : List ℕ) (serial : Bool) {P : Type 0} → form_of words ≡ Some (Correlate config serial) → P
  no_correlate config serial is = let clash : None ≡ Some (Correlate config serial) = sym no_form ∙ is in absurd cc

-- what a tool's code says, by whether its words have a form
pub record ToolSays {S : Type 0} (o : Option Command) (old now : S) (source : SourceSeen) (sink : SinkSeen)
    (print : PrintSeen) (code : ℕ) : Type 0 where
  pub usage : (code ≡ 1) ↔ IsNone o
  pub not_settings : code ≡ 2 → ⊥
  pub not_text : code ≡ 8 → ⊥
  pub sink_rose : code ≡ 4 → Rises sink.faults_before sink.faults
  pub print_rose : code ≡ 6 → Rises print.faults_before print.faults
  pub calm : code ≡ 0 → (source.faults ≡ source.faults_before) × (sink.faults ≡ sink.faults_before)
      × (print.faults ≡ print.faults_before)
  pub out : code ≡ 5 → (now ≡ old) × IsUnused sink

misused : {S : Type 0} (old now : S) (source : SourceSeen) (sink : SinkSeen) (print : PrintSeen) (code : ℕ) → code ≡ 1
    → ToolSays None old now source sink print code
misused old now source sink print code one = record {
  usage = (λ e. refl, λ e. one);
  not_settings = λ e. omega (arith, e, one);
  not_text = λ e. omega (arith, e, one);
  sink_rose = λ e. absurd (omega (arith, e, one));
  print_rose = λ e. absurd (omega (arith, e, one));
  calm = λ e. absurd (omega (arith, e, one));
  out = λ e. absurd (omega (arith, e, one));
}

used : {S : Type 0} (c : Command) (old now : S) (source : SourceSeen) (sink : SinkSeen) (print : PrintSeen) (code : ℕ)
    → ToolEffects old now source sink print code → ToolSays (Some c) old now source sink print code
used c old now source sink print code h = record {
  usage = (λ e. absurd (h.not_usage e), λ e. absurd cc);
  not_settings = h.not_settings;
  not_text = h.not_text;
  sink_rose = h.sink_rose;
  print_rose = h.print_rose;
  calm = h.calm;
  out = h.out;
}

pub tool_says : {S : Type 0} (o : Option Command) (old now : S) (source : SourceSeen) (sink : SinkSeen)
    (print : PrintSeen) (code : ℕ) → ToolRan o old now source sink print code
    → ToolSays o old now source sink print code
tool_says None old now source sink print code h = elim h.told [
  | inl whole ↦ misused old now source sink print code whole.same
  | inr cut ↦ misused old now source sink print code cut.changed
]
tool_says (Some c) old now source sink print code h =
    used c old now source sink print code (tool_effects old now source sink print code c h)

module _ {S : Type 0} (xs : List S) (x y : S) (some : 0 < length xs) (is : x ≡ get_or xs 0 x) where
  -- the first source as it was, and as it is now
  pub first_is : (first : S) → first ≡ get_or xs 0 first → x ≡ first
  first_is first e = is ∙ (get_or_default xs 0 x first some ∙ sym e)

  pub now_is : (now : S) → now ≡ get_or (set xs 0 y) 0 now → y ≡ now
  now_is now e = sym (e ∙ get_or-set_same xs 0 y now some)

  pub others_same : AreSameFrom 1 xs (set xs 0 y)
  others_same = same_from_set xs xs 0 x y some is (record { each = λ a d past. refl })

  pub faults_same : (faults : S → ℕ) → faults y ≡ faults x → KeepsEach faults xs (set xs 0 y)
  faults_same faults same = keeps_set xs xs 0 x y some is faults same (record { each = λ a d. refl })

  pub untouched : y ≡ x → set xs 0 y ≡ xs
  untouched same = ap (set xs 0) (same ∙ is) ∙ set-get_or xs 0 x
