-- The words of a tool, and what a run of it changes.
use Rattle.std.proofs.Common.{◌≡◌, ◌⊎◌, ℕ, Bool, true, false, List, [], ◌∷◌, drop, length, Option, Some, None, refl, sym, ◌∙◌, subst, cond, arith, inl, inr}
use Rattle.std.specs.Prelude.{Result, Ok, Err, is_some, ◌||◌, ◌==◌, ◌^◌, option_map, bytes_eq, codes, nat_le}
use Rattle.std.specs.List.{list_all}
use Rattle.std.proofs.lemmas.Slice.Eq.{bytes_eq-Decides}
use Rattle.std.proofs.lemmas.Bool.{eqb-true, eq-eqb}
use Rattle.corr_site.specs.Outside.{HasCause, Rises}
use Rattle.corr_words.specs.declared.command.Command.{Command}
use Rattle.corr_words.specs.declared.command.Command.TheVariants.{Plain, Correlate, Trial, Simulate, Relay, Inspect, Decode}
use Rattle.corr_words.specs.Words.{is_operand, word_at}
use Rattle.corr_words.specs.Forms.{decode_form, form, inspect_form, number_to, relay_form, rest_form}
use Rattle.corr_tools.specs.declared.relaying.Relayed.TheVariants as relayed
use Rattle.corr_tools.specs.declared.decoding.Ended.{Ended}
use Rattle.corr_tools.specs.declared.decoding.Ended.TheVariants as ended
use Rattle.corr_tools.specs.Decoding.{DecodeCause}
use Rattle.corr_cli.specs.declared.tools.RelayEnd.{RelayEnd}
use Rattle.corr_cli.specs.declared.tools.RelayEnd.TheVariants.{SourceUnbegun, SinkUnbegun, Over}
use Rattle.corr_cli.specs.Said.{form_of}
use Rattle.corr_cli.specs.declared.answer.Answer.{Answer}
use Rattle.corr_cli.specs.Texts.{Tells, code_of, text_of, unprinted}
use Rattle.corr_cli.specs.Tools.{CommandRan, DecodeComes, InspectComes, IsMisused, IsOfTool, IsUnused, PrintSeen, RelayComes, SinkSeen, SourceSeen, TellsText, ToolRan, WordsAreOut, decode_code, inspect_code, names_tool, read_code, relay_code}
use Rattle.corr_cli.proofs.SaidLemmas.{other_words}

-- where there is a command, it is one of a tool
abbrev pub AreTools : Option Command → Type 0
AreTools None = Unit {0}
AreTools (Some c) = IsOfTool c

either_tool : (b : Bool) (x y : Option Command) → AreTools x → AreTools y → AreTools (cond b x y)
either_tool true x y h k = h
either_tool false x y h k = k

mapped_tool : {A : Type 0} (g : A → Command) → ((a : A) → IsOfTool (g a)) → (o : Option A) → AreTools (option_map g o)
mapped_tool g h None = tt
mapped_tool g h (Some a) = h a

relay_tool : (operands : List (List ℕ)) → AreTools (relay_form operands)
relay_tool [] = tt
relay_tool (from ∷ []) = tt
relay_tool (from ∷ to ∷ []) = tt
relay_tool (from ∷ to ∷ limit ∷ []) = mapped_tool _ (λ n. tt) (number_to (2 ^ 40) limit)
relay_tool (from ∷ to ∷ limit ∷ x ∷ xs) = tt

inspect_tool : (operands : List (List ℕ)) → AreTools (inspect_form operands)
inspect_tool [] = tt
inspect_tool (from ∷ []) = tt
inspect_tool (from ∷ x ∷ xs) = tt

decode_tool : (operands : List (List ℕ)) → AreTools (decode_form operands)
decode_tool [] = tt
decode_tool (from ∷ []) = tt
decode_tool (from ∷ limit ∷ []) = mapped_tool _ (λ n. tt) (number_to (2 ^ 30) limit)
decode_tool (from ∷ limit ∷ x ∷ xs) = tt

pub or_true : (a b : Bool) → (a || b) ≡ true → (a ≡ true) ⊎ (b ≡ true)
or_true true b h = inl refl
or_true false b h = inr h

pub same_bytes : (xs ys : List ℕ) → bytes_eq xs ys ≡ true → xs ≡ ys
same_bytes xs ys h = (bytes_eq-Decides xs ys).0 h

rest_tool : (command : List ℕ) (rest : List (List ℕ))
    → (bytes_eq command (codes "relay") || (bytes_eq command (codes "inspect") || bytes_eq command (codes "decode")))
    ≡ true → AreTools (rest_form command rest)
rest_tool command rest h =
    elim (or_true (bytes_eq command (codes "relay"))
    (bytes_eq command (codes "inspect") || bytes_eq command (codes "decode")) h) [
      | inl is ↦ subst (λ k. AreTools (rest_form k rest)) (sym (same_bytes command (codes "relay") is))
          (either_tool (list_all is_operand rest) (relay_form rest) None (relay_tool rest) tt)
      | inr others ↦ elim (or_true (bytes_eq command (codes "inspect")) (bytes_eq command (codes "decode")) others) [
        | inl is ↦ subst (λ k. AreTools (rest_form k rest)) (sym (same_bytes command (codes "inspect") is))
            (either_tool (list_all is_operand rest) (inspect_form rest) None (inspect_tool rest) tt)
        | inr is ↦ subst (λ k. AreTools (rest_form k rest)) (sym (same_bytes command (codes "decode") is))
            (either_tool (list_all is_operand rest) (decode_form rest) None (decode_tool rest) tt)
      ]
    ]

pub words_tool : (words : List (List ℕ)) → names_tool words ≡ true → AreTools (form words)
words_tool words h =
    either_tool (nat_le 2 (length words)) (rest_form (word_at words 1) (drop 2 words)) None
    (rest_tool (word_at words 1) (drop 2 words) h) tt

-- the command that the words of a tool say is one
pub is_of_tool : (words : List (List ℕ)) (c : Command) → names_tool words ≡ true → form words ≡ Some c → IsOfTool c
is_of_tool words c h e = subst AreTools e (words_tool words h)

pub named_so : (word : List ℕ) (name : List ℕ) → bytes_eq word name ≡ true
    → (bytes_eq name (codes "plain") || bytes_eq name (codes "correlate")) ≡ false
    → (bytes_eq word (codes "plain") || bytes_eq word (codes "correlate")) ≡ false
named_so word name is other =
    subst (λ k. (bytes_eq k (codes "plain") || bytes_eq k (codes "correlate")) ≡ false)
    (sym (same_bytes word name is)) other

-- the words of a tool ask for nothing that correlates
pub tool_is_no_run : (words : List (List ℕ)) → names_tool words ≡ true → form_of words ≡ None
tool_is_no_run words h =
    let word = word_at words 1 in
    other_words words (elim
    (or_true (bytes_eq word (codes "relay")) (bytes_eq word (codes "inspect") || bytes_eq word (codes "decode")) h) [
      | inl is ↦ named_so word (codes "relay") is refl
      | inr others ↦ elim (or_true (bytes_eq word (codes "inspect")) (bytes_eq word (codes "decode")) others) [
        | inl is ↦ named_so word (codes "inspect") is refl
        | inr is ↦ named_so word (codes "decode") is refl
      ]
    ])

-- what the code of a tool's own says, were its text written
pub record OwnEffects {S : Type 0} (old now : S) (source : SourceSeen) (sink : SinkSeen) (own : ℕ) : Type 0 where
  pub not_usage : own ≡ 1 → ⊥
  pub not_settings : own ≡ 2 → ⊥
  pub not_text : own ≡ 8 → ⊥
  pub not_cut : own ≡ 6 → ⊥
  pub sink_rose : own ≡ 4 → Rises sink.faults_before sink.faults
  pub calm : own ≡ 0 → (source.faults ≡ source.faults_before) × (sink.faults ≡ sink.faults_before)
  pub out : own ≡ 5 → (now ≡ old) × IsUnused sink

-- what the code of a tool says
pub record ToolEffects {S : Type 0} (old now : S) (source : SourceSeen) (sink : SinkSeen) (print : PrintSeen)
    (code : ℕ) : Type 0 where
  pub not_usage : code ≡ 1 → ⊥
  pub not_settings : code ≡ 2 → ⊥
  pub not_text : code ≡ 8 → ⊥
  pub sink_rose : code ≡ 4 → Rises sink.faults_before sink.faults
  pub print_rose : code ≡ 6 → Rises print.faults_before print.faults
  pub calm : code ≡ 0 → (source.faults ≡ source.faults_before) × (sink.faults ≡ sink.faults_before)
      × (print.faults ≡ print.faults_before)
  pub out : code ≡ 5 → (now ≡ old) × IsUnused sink

-- the code is the own one, or that of a text that was not written whole
abbrev pub IsCodeOf : PrintSeen → ℕ → ℕ → Type 0
IsCodeOf print own code =
    ((code ≡ own) × (print.faults ≡ print.faults_before))
    ⊎ ((code ≡ unprinted own) × Rises print.faults_before print.faults)

pub told_so : (print : PrintSeen) (text : List ℕ) (own code : ℕ)
    → TellsText print.before print.now print.faults_before print.faults text own code → IsCodeOf print own code
told_so print text own code (inl whole) = inl (whole.same, whole.calm)
told_so print text own code (inr cut) = inr (cut.changed, cut.rises)

read_so : {T E : Type 0} (print : PrintSeen) (own code : ℕ) (r : Result T E)
    → HasCause print.faults_before print.faults r → code ≡ read_code own r → IsCodeOf print own code
read_so print own code (Ok x) cause is = inl (is, cause.kept)
read_so print own code (Err e) cause is = inr (is, record { later = cause.later; rose = cause.failed })

cut_by : (b : Bool) (own code : ℕ) → (own == 0) ≡ b → code ≡ cond b 6 own
    → ((own ≡ 0) × (code ≡ 6)) ⊎ ((own ≡ code) × (own ≡ 0 → ⊥))
cut_by true own code test e = inl (eqb-true own 0 test, e)
cut_by false own code test e = inr (sym e, λ z. absurd (let clash : true ≡ false = sym (eq-eqb own 0 z) ∙ test in cc))

pub cut_code : (own code : ℕ) → code ≡ unprinted own → ((own ≡ 0) × (code ≡ 6)) ⊎ ((own ≡ code) × (own ≡ 0 → ⊥))
cut_code own code e = cut_by (own == 0) own code refl e

effects : {S : Type 0} (old now : S) (source : SourceSeen) (sink : SinkSeen) (print : PrintSeen) (own code : ℕ)
    → OwnEffects old now source sink own → IsCodeOf print own code → ToolEffects old now source sink print code
effects old now source sink print own code h (inl same) = record {
  not_usage = λ e. h.not_usage (sym same.0 ∙ e);
  not_settings = λ e. h.not_settings (sym same.0 ∙ e);
  not_text = λ e. h.not_text (sym same.0 ∙ e);
  sink_rose = λ e. h.sink_rose (sym same.0 ∙ e);
  print_rose = λ e. absurd (h.not_cut (sym same.0 ∙ e));
  calm = λ e. let both = h.calm (sym same.0 ∙ e) in (both.0, both.1, same.1);
  out = λ e. h.out (sym same.0 ∙ e);
}
effects old now source sink print own code h (inr cut) = elim (cut_code own code cut.0) [
  | inl six ↦ record {
    not_usage = λ e. omega (arith, e, six.1);
    not_settings = λ e. omega (arith, e, six.1);
    not_text = λ e. omega (arith, e, six.1);
    sink_rose = λ e. absurd (omega (arith, e, six.1));
    print_rose = λ e. cut.1;
    calm = λ e. absurd (omega (arith, e, six.1));
    out = λ e. absurd (omega (arith, e, six.1));
  }
  | inr other ↦ record {
    not_usage = λ e. h.not_usage (other.0 ∙ e);
    not_settings = λ e. h.not_settings (other.0 ∙ e);
    not_text = λ e. h.not_text (other.0 ∙ e);
    sink_rose = λ e. h.sink_rose (other.0 ∙ e);
    print_rose = λ e. cut.1;
    calm = λ e. absurd (other.1 (other.0 ∙ e));
    out = λ e. h.out (other.0 ∙ e);
  }
]

module _ {S : Type 0} (old now : S) (source : SourceSeen) (sink : SinkSeen) where
  own_three : OwnEffects old now source sink 3
  own_three = record {
    not_usage = λ e. omega (arith, e);
    not_settings = λ e. omega (arith, e);
    not_text = λ e. omega (arith, e);
    not_cut = λ e. omega (arith, e);
    sink_rose = λ e. absurd (omega (arith, e));
    calm = λ e. absurd (omega (arith, e));
    out = λ e. absurd (omega (arith, e));
  }

  own_four : Rises sink.faults_before sink.faults → OwnEffects old now source sink 4
  own_four rose = record {
    not_usage = λ e. omega (arith, e);
    not_settings = λ e. omega (arith, e);
    not_text = λ e. omega (arith, e);
    not_cut = λ e. omega (arith, e);
    sink_rose = λ e. rose;
    calm = λ e. absurd (omega (arith, e));
    out = λ e. absurd (omega (arith, e));
  }

  own_nine : OwnEffects old now source sink 9
  own_nine = record {
    not_usage = λ e. omega (arith, e);
    not_settings = λ e. omega (arith, e);
    not_text = λ e. omega (arith, e);
    not_cut = λ e. omega (arith, e);
    sink_rose = λ e. absurd (omega (arith, e));
    calm = λ e. absurd (omega (arith, e));
    out = λ e. absurd (omega (arith, e));
  }

  own_zero : source.faults ≡ source.faults_before → sink.faults ≡ sink.faults_before → OwnEffects old now source sink 0
  own_zero first second = record {
    not_usage = λ e. omega (arith, e);
    not_settings = λ e. omega (arith, e);
    not_text = λ e. omega (arith, e);
    not_cut = λ e. omega (arith, e);
    sink_rose = λ e. absurd (omega (arith, e));
    calm = λ e. (first, second);
    out = λ e. absurd (omega (arith, e));
  }

  own_five : now ≡ old → IsUnused sink → OwnEffects old now source sink 5
  own_five same unused = record {
    not_usage = λ e. omega (arith, e);
    not_settings = λ e. omega (arith, e);
    not_text = λ e. omega (arith, e);
    not_cut = λ e. omega (arith, e);
    sink_rose = λ e. absurd (omega (arith, e));
    calm = λ e. absurd (omega (arith, e));
    out = λ e. (same, unused);
  }

  relay_own : (limit : ℕ) (end : RelayEnd) → RelayComes limit source sink end
      → OwnEffects old now source sink (relay_code end)
  relay_own limit SourceUnbegun h = own_three
  relay_own limit SinkUnbegun h = own_four h.rose
  relay_own limit (Over (relayed.Done packets)) h = own_zero h.cause.0 h.cause.1
  relay_own limit (Over (relayed.SourceFault packets)) h = own_three
  relay_own limit (Over relayed.SinkFault) h = own_four h.cause.1

  inspect_own : {T E : Type 0} (r : Result T E) → HasCause source.faults_before source.faults r
      → sink.faults ≡ sink.faults_before → OwnEffects old now source sink (inspect_code r)
  inspect_own (Ok x) cause calm = own_zero cause.kept calm
  inspect_own (Err e) cause calm = own_three

  decode_own : (how : Ended) → DecodeCause source.faults_before source.faults how → sink.faults ≡ sink.faults_before
      → OwnEffects old now source sink (decode_code how)
  decode_own ended.Whole cause calm = own_zero cause calm
  decode_own (ended.NoStop count) cause calm = own_nine
  decode_own (ended.Refused place why) cause calm = own_nine
  decode_own ended.SourceFault cause calm = own_three

  module _ (print : PrintSeen) (code : ℕ) where
    inspect_effects : sink.faults ≡ sink.faults_before → InspectComes source print code
        → ToolEffects old now source sink print code
    inspect_effects calm (inl failed) =
        effects old now source sink print 3 code own_three (told_so print _ 3 code failed.told)
    inspect_effects calm (inr went) =
        effects old now source sink print (inspect_code went.how.source) code
        (inspect_own went.how.source went.source_cause calm)
        (read_so print (inspect_code went.how.source) code went.how.print went.print_cause went.code_is)

    decode_effects : (limit : ℕ) → IsUnused sink → sink.faults ≡ sink.faults_before
        → DecodeComes limit old now source print code → ToolEffects old now source sink print code
    decode_effects limit unused calm (inl out) =
        effects old now source sink print 5 code (own_five out.same unused) (told_so print _ 5 code out.told)
    decode_effects limit unused calm (inr (inl failed)) =
        effects old now source sink print 3 code own_three (told_so print _ 3 code failed.told)
    decode_effects limit unused calm (inr (inr went)) =
        effects old now source sink print (decode_code went.how.ended) code
        (decode_own went.how.ended went.source_cause calm)
        (read_so print (decode_code went.how.ended) code went.how.print went.print_cause went.code_is)

    command_effects : (c : Command) → CommandRan c old now source sink print code
        → ToolEffects old now source sink print code
    command_effects (Relay from to limit) h =
        effects old now source sink print (relay_code h.end) code (relay_own limit h.end h.comes)
        (told_so print _ (relay_code h.end) code h.told)
    command_effects (Inspect from) h = inspect_effects h.sink_calm h.comes
    command_effects (Decode from limit) h = decode_effects limit h.unused h.sink_calm h.comes
    command_effects (Plain p) h = absurd h
    command_effects (Correlate config serial) h = absurd h
    command_effects (Trial config seed serial) h = absurd h
    command_effects (Simulate config seed antenna out) h = absurd h

    -- what a tool's code says, where its words have a form
    pub tool_effects : (c : Command) → ToolRan (Some c) old now source sink print code
        → ToolEffects old now source sink print code
    tool_effects c (inl out) =
        effects old now source sink print 5 code (own_five out.out.same out.unused)
        (told_so print _ 5 code out.out.told)
    tool_effects c (inr ran) = command_effects c ran

-- what the words of a tool come to, by their form
pub ran_some : {S : Type 0} (o : Option Command) (c : Command) (old now : S) (source : SourceSeen) (sink : SinkSeen)
    (print : PrintSeen) (code : ℕ) → o ≡ Some c → CommandRan c old now source sink print code
    → ToolRan o old now source sink print code
ran_some o c old now source sink print code is ran =
    let some : ToolRan (Some c) old now source sink print code = inr ran in
    subst (λ k. ToolRan k old now source sink print code) (sym is) some

pub ran_none : {S : Type 0} (o : Option Command) (old now : S) (source : SourceSeen) (sink : SinkSeen)
    (print : PrintSeen) (code : ℕ) → o ≡ None → IsMisused old now sink print code
    → ToolRan o old now source sink print code
ran_none o old now source sink print code is ran = subst (λ k. ToolRan k old now source sink print code) (sym is) ran

pub ran_out : {S : Type 0} (o : Option Command) (old now : S) (source : SourceSeen) (sink : SinkSeen)
    (print : PrintSeen) (code : ℕ) → is_some o ≡ true → WordsAreOut old now sink print code
    → ToolRan o old now source sink print code
ran_out None old now source sink print code some out = absurd cc
ran_out (Some c) old now source sink print code some out = inl out

pub told_text : (before now : Option (List ℕ)) (faults_before faults : ℕ) (answer : Answer) (code : ℕ)
    → Tells before now faults_before faults answer code
    → TellsText before now faults_before faults (text_of answer) (code_of answer) code
told_text before now faults_before faults answer code (inl whole) =
    inl (record { written = whole.written; calm = whole.faults_kept; same = whole.code_is })
told_text before now faults_before faults answer code (inr front) =
    inr (record { front = front.written; rises = front.rises; changed = front.code_is })
