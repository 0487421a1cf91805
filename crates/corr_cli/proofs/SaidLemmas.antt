-- What words and the text of settings say.
use Rattle.std.proofs.Common.{◌≡◌, ◌+◌, ℕ, Bool, true, false, List, [], ◌∷◌, drop, length, Option, Some, None, refl, sym, ap, ◌∙◌, subst, cond, inl, inr}
use Rattle.std.specs.Prelude.{Result, Ok, Err, ◌⊎◌, option_map, option_and_then, is_some, bytes_eq, codes, filter, nat_le, not, ◌||◌, ◌==◌, ◌^◌}
use Rattle.std.specs.List.{list_all, list_any}
use Rattle.std.proofs.lemmas.Slice.Eq.{bytes_eq-Decides}
use Rattle.corr_words.specs.declared.command.PlainWords.{PlainWords}
use Rattle.corr_words.specs.declared.reading.Numbers.{Numbers}
use Rattle.corr_words.specs.declared.command.Command.{Command}
use Rattle.corr_words.specs.declared.command.Command.TheVariants.{Plain, Correlate, Trial, Simulate, Relay, Inspect, Decode}
use Rattle.corr_words.specs.declared.command.WordRefusal.{WordRefusal}
use Rattle.corr_words.specs.declared.command.WordRefusal.TheVariants as word
use Rattle.corr_words.specs.Words.{is_flag, is_operand, number, word_at}
use Rattle.corr_words.specs.Forms.{command_form, correlate_form, decode_form, form, inspect_form, numbers_of, number_to, numbers_form, plain_form, plain_words, relay_form, rest_form, simulate_form, sound_form, trial_form}
use Rattle.corr_settings.specs.declared.settings.Settings.{Settings}
use Rattle.corr_settings.specs.declared.refusal.SetRefusal.{SetRefusal}
use Rattle.corr_settings.specs.Read.{settings}
use Rattle.corr_model.specs.declared.plan.Plan.{Plan}
use Rattle.corr_settings.specs.Plain.{plain_settings}
use Rattle.corr_cli.specs.Said.{HasRun, form_of, if_over_sources, is_over_sources, names_over_sources, numbers, numbers_of_plain, of_plain, placed, said, said_by}
use Rattle.corr_cli.specs.Says.{HasSaid, IsPlainRefused, IsSaidBy, MayGoOn}

-- what is chosen is not over the sources where neither is
neither : (b : Bool) (x y : Option Command) → option_and_then if_over_sources x ≡ None
    → option_and_then if_over_sources y ≡ None → option_and_then if_over_sources (cond b x y) ≡ None
neither true x y h k = h
neither false x y h k = k

mapped : {A : Type 0} (g : A → Command) → ((a : A) → if_over_sources (g a) ≡ None) → (o : Option A)
    → option_and_then if_over_sources (option_map g o) ≡ None
mapped g h None = refl
mapped g h (Some a) = h a

chained : {A B : Type 0} (g : A → B → Command) → ((a : A) (b : B) → if_over_sources (g a b) ≡ None)
    → (o : Option A) (p : Option B)
    → option_and_then if_over_sources (option_and_then (λ a. option_map (g a) p) o) ≡ None
chained g h None p = refl
chained g h (Some a) p = mapped (g a) (h a) p

tries : (serial : Bool) (operands : List (List ℕ)) → option_and_then if_over_sources (trial_form serial operands) ≡ None
tries serial [] = refl
tries serial (config ∷ []) = refl
tries serial (config ∷ seed ∷ []) = mapped _ (λ n. refl) (number seed)
tries serial (config ∷ seed ∷ x ∷ xs) = refl

sees : (operands : List (List ℕ)) → option_and_then if_over_sources (inspect_form operands) ≡ None
sees [] = refl
sees (from ∷ []) = refl
sees (from ∷ x ∷ xs) = refl

decodes : (operands : List (List ℕ)) → option_and_then if_over_sources (decode_form operands) ≡ None
decodes [] = refl
decodes (from ∷ []) = refl
decodes (from ∷ limit ∷ []) = mapped _ (λ n. refl) (number_to (2 ^ 30) limit)
decodes (from ∷ limit ∷ x ∷ xs) = refl

relays : (operands : List (List ℕ)) → option_and_then if_over_sources (relay_form operands) ≡ None
relays [] = refl
relays (from ∷ []) = refl
relays (from ∷ to ∷ []) = refl
relays (from ∷ to ∷ limit ∷ []) = mapped _ (λ n. refl) (number_to (2 ^ 40) limit)
relays (from ∷ to ∷ limit ∷ x ∷ xs) = refl

simulates : (operands : List (List ℕ)) → option_and_then if_over_sources (simulate_form operands) ≡ None
simulates [] = refl
simulates (config ∷ []) = refl
simulates (config ∷ seed ∷ []) = refl
simulates (config ∷ seed ∷ antenna ∷ []) = refl
simulates (config ∷ seed ∷ antenna ∷ out ∷ []) = chained _ (λ n a. refl) (number seed) (number antenna)
simulates (config ∷ seed ∷ antenna ∷ out ∷ x ∷ xs) = refl

others_in : (command : List ℕ) (serial : Bool) (operands : List (List ℕ)) → bytes_eq command (codes "plain") ≡ false
    → bytes_eq command (codes "correlate") ≡ false
    → option_and_then if_over_sources (command_form command serial operands) ≡ None
others_in command serial operands other another =
    rw (other, another)
    (neither (bytes_eq command (codes "trial")) _ _ (tries serial operands)
    (neither (bytes_eq command (codes "simulate")) _ _ (simulates operands)
    (neither (bytes_eq command (codes "relay")) _ _ (relays operands)
    (neither (bytes_eq command (codes "inspect")) _ _ (sees operands)
    (neither (bytes_eq command (codes "decode")) _ _ (decodes operands) refl)))))

others_sound : (command : List ℕ) (serial : Bool) (operands : List (List ℕ)) → bytes_eq command (codes "plain") ≡ false
    → bytes_eq command (codes "correlate") ≡ false
    → option_and_then if_over_sources (sound_form command serial operands) ≡ None
others_sound command serial operands other another =
    neither (list_all is_operand operands) (command_form command serial operands) None
    (others_in command serial operands other another) refl

-- another command has no form of one over the sources
pub other_rest : (command : List ℕ) (rest : List (List ℕ)) → bytes_eq command (codes "plain") ≡ false
    → bytes_eq command (codes "correlate") ≡ false
    → option_and_then if_over_sources (rest_form command rest) ≡ None
other_rest command rest other another =
    neither _ (sound_form command (list_any is_flag rest) (filter (λ word. not (is_flag word)) rest))
    (sound_form command false rest)
    (others_sound command (list_any is_flag rest) (filter (λ word. not (is_flag word)) rest) other another)
    (others_sound command false rest other another)

-- the command of the words is one
pub same_command : (words : List (List ℕ)) (c d : Command) → form_of words ≡ Some c → form_of words ≡ Some d → c ≡ d
same_command words c d is also = let same : Some c ≡ Some d = sym is ∙ also in cc

-- what was said by the command is what the words and the text say
agrees_by : (c : Command) (text : Option (List ℕ)) (r s : Result Settings SetRefusal) → IsSaidBy c text r
    → said_by c text ≡ Some s → r ≡ s
agrees_by (Plain p) text r s h e = let same : Some (of_plain p) ≡ Some s = e in sym h ∙ cc
agrees_by (Correlate config serial) None r s h e = absurd cc
agrees_by (Correlate config serial) (Some bytes) r s h e = let same : Some (settings bytes) ≡ Some s = e in sym h ∙ cc
agrees_by (Trial config seed serial) text r s h e = absurd h
agrees_by (Simulate config seed antenna out) text r s h e = absurd h
agrees_by (Relay from to limit) text r s h e = absurd h
agrees_by (Inspect from) text r s h e = absurd h
agrees_by (Decode from limit) text r s h e = absurd h

said_of : (words : List (List ℕ)) (text : Option (List ℕ)) (c : Command) → form_of words ≡ Some c
    → said words text ≡ said_by c text
said_of words text c e = ap (option_and_then (λ command. said_by command text)) e

pub agrees : (words : List (List ℕ)) (text : Option (List ℕ)) (r s : Result Settings SetRefusal) → HasSaid words text r
    → said words text ≡ Some s → r ≡ s
agrees words text r s h e = agrees_by h.command text r s h.says (sym (said_of words text h.command h.is_form) ∙ e)

pub same_run : (words : List (List ℕ)) (text : Option (List ℕ)) (run other : Settings) → HasSaid words text (Ok run)
    → HasRun words text other → run ≡ other
same_run words text run other h e =
    let ok : Result Settings SetRefusal = Ok run in
    let same : ok ≡ Ok other = agrees words text (Ok run) (Ok other) h e in cc

-- a run and a refusal do not agree
pub never_both : (words : List (List ℕ)) (text : Option (List ℕ)) (run : Settings) (refusal : SetRefusal) {P : Type 0}
    → HasSaid words text (Err refusal) → HasRun words text run → P
never_both words text run refusal h e =
    let err : Result Settings SetRefusal = Err refusal in
    let same : err ≡ Ok run = agrees words text (Err refusal) (Ok run) h e in absurd cc

-- words with a run have a form
pub some_form : (words : List (List ℕ)) (text : Option (List ℕ)) (r : Result Settings SetRefusal) {P : Type 0}
    → said words text ≡ Some r → form_of words ≡ None → P
some_form words text r e none =
    let same : said words text ≡ None = ap (option_and_then (λ command. said_by command text)) none in
    let both : Some r ≡ None = sym e ∙ same in absurd cc

-- words whose command has no numbers are not those of `plain`
pub no_numbers : (words : List (List ℕ)) → option_and_then numbers_of (form words) ≡ None
    → (p : PlainWords) (refusal : SetRefusal) → form_of words ≡ Some (Plain p) → of_plain p ≡ Err refusal → ⊥
no_numbers words none p refusal is refused = by (form words) none is
  where
    by : (o : Option Command) → option_and_then numbers_of o ≡ None
        → option_and_then if_over_sources o ≡ Some (Plain p) → ⊥
    by None h e = absurd cc
    by (Some (Plain q)) h e = absurd cc
    by (Some (Correlate config serial)) h e = absurd cc
    by (Some (Trial config seed serial)) h e = absurd cc
    by (Some (Simulate config seed antenna out)) h e = absurd cc
    by (Some (Relay from to limit)) h e = absurd cc
    by (Some (Inspect from)) h e = absurd cc
    by (Some (Decode from limit)) h e = absurd cc

-- the words of `plain` that have these numbers
pub record IsPlain (words : List (List ℕ)) (n : Numbers) : Type 0 where
  pub plain : PlainWords
  pub is_form : form_of words ≡ Some (Plain plain)
  pub same : numbers_of_plain plain ≡ n

plain_of : (words : List (List ℕ)) (n : Numbers) → option_and_then numbers_of (form words) ≡ Some n → IsPlain words n
plain_of words n h = by (form words) refl h
  where
    by : (o : Option Command) → form words ≡ o → option_and_then numbers_of o ≡ Some n → IsPlain words n
    by None e h = absurd cc
    by (Some (Plain q)) e h =
        record {
          plain = q;
          is_form = ap (option_and_then if_over_sources) e;
          same = let both : Some (numbers_of_plain q) ≡ Some n = h in cc;
        }
    by (Some (Correlate config serial)) e h = absurd cc
    by (Some (Trial config seed serial)) e h = absurd cc
    by (Some (Simulate config seed antenna out)) e h = absurd cc
    by (Some (Relay from to limit)) e h = absurd cc
    by (Some (Inspect from)) e h = absurd cc
    by (Some (Decode from limit)) e h = absurd cc

-- the numbers of `plain` are accepted
pub accepted_numbers : (words : List (List ℕ)) (n : Numbers) (plan : Plan)
    → option_and_then numbers_of (form words) ≡ Some n → plain_settings (numbers n) ≡ Ok plan
    → (p : PlainWords) (refusal : SetRefusal) → form_of words ≡ Some (Plain p) → of_plain p ≡ Err refusal → ⊥
accepted_numbers words n plan h ok p refusal is refused =
    let mine = plain_of words n h in
    let one : Plain mine.plain ≡ Plain p = same_command words (Plain mine.plain) (Plain p) mine.is_form is in
    let same : mine.plain ≡ p = cc in
    let accepted : of_plain mine.plain ≡ placed mine.plain (Ok plan) =
    ap (λ m. placed mine.plain (plain_settings (numbers m))) mine.same ∙ ap (placed mine.plain) ok in
    let ok_is : Result Settings SetRefusal = placed mine.plain (Ok plan) in
    let both : ok_is ≡ Err refusal = sym accepted ∙ (ap of_plain same ∙ refused) in
    absurd cc

-- the numbers of `plain` are refused
pub refused_plain : (words : List (List ℕ)) (n : Numbers) (refusal : SetRefusal)
    → option_and_then numbers_of (form words) ≡ Some n → plain_settings (numbers n) ≡ Err refusal
    → IsPlainRefused words refusal
refused_plain words n refusal h err =
    let mine = plain_of words n h in
    record {
      plain = mine.plain;
      is_form = mine.is_form;
      refused = ap (λ m. placed mine.plain (plain_settings (numbers m))) mine.same ∙ ap (placed mine.plain) err;
    }

or_false : (a b : Bool) → (a || b) ≡ false → (a ≡ false) × (b ≡ false)
or_false false b h = (refl, h)
or_false true b h = absurd cc

-- words of another command have no form of one over the sources
pub other_words : (words : List (List ℕ)) → names_over_sources words ≡ false → form_of words ≡ None
other_words words h =
    let both = or_false (bytes_eq (word_at words 1) (codes "plain"))
    (bytes_eq (word_at words 1) (codes "correlate")) h in
    neither (nat_le 2 (length words)) (rest_form (word_at words 1) (drop 2 words)) None
    (other_rest (word_at words 1) (drop 2 words) both.0 both.1) refl

-- each command that is said is over the sources
unfoldable pub AllOverSources : Option Command → Type 0
AllOverSources o = (c : Command) → o ≡ Some c → is_over_sources c ≡ true

pub none_over : AllOverSources None
unfolding AllOverSources
none_over = λ c e. absurd cc

one_over : (c : Command) → is_over_sources c ≡ true → AllOverSources (Some c)
unfolding AllOverSources
one_over c h = λ d e. let same : c ≡ d = cc in ap is_over_sources (sym same) ∙ h

pub either_over : (b : Bool) (x y : Option Command) → AllOverSources x → AllOverSources y → AllOverSources (cond b x y)
either_over true x y h k = h
either_over false x y h k = k

plain_built_by : (operands : List (List ℕ)) (o : Option Numbers)
    → AllOverSources (option_and_then
    (λ n. cond (length operands == n.antennas + 6) (Some (Plain (plain_words operands n))) None) o)
plain_built_by operands None = none_over
plain_built_by operands (Some n) =
    either_over (length operands == n.antennas + 6) (Some (Plain (plain_words operands n))) None
    (one_over (Plain (plain_words operands n)) refl) none_over

pub plain_over : (operands : List (List ℕ)) → AllOverSources (plain_form operands)
plain_over operands = plain_built_by operands (numbers_form operands)

pub correlate_over : (serial : Bool) (operands : List (List ℕ)) → AllOverSources (correlate_form serial operands)
correlate_over serial [] = none_over
correlate_over serial (config ∷ []) = one_over (Correlate config serial) refl
correlate_over serial (config ∷ x ∷ xs) = none_over

plain_rest : (rest : List (List ℕ)) → AllOverSources (rest_form (codes "plain") rest)
plain_rest rest = either_over (list_all is_operand rest) (plain_form rest) None (plain_over rest) none_over

correlate_sound : (serial : Bool) (operands : List (List ℕ))
    → AllOverSources (sound_form (codes "correlate") serial operands)
correlate_sound serial operands =
    either_over (list_all is_operand operands) (correlate_form serial operands) None
    (correlate_over serial operands) none_over

correlate_rest : (rest : List (List ℕ)) → AllOverSources (rest_form (codes "correlate") rest)
correlate_rest rest =
    either_over (nat_le (length (filter is_flag rest)) 1)
    (sound_form (codes "correlate") (list_any is_flag rest) (filter (λ word. not (is_flag word)) rest))
    (sound_form (codes "correlate") false rest)
    (correlate_sound (list_any is_flag rest) (filter (λ word. not (is_flag word)) rest)) (correlate_sound false rest)

or_true : (a b : Bool) → (a || b) ≡ true → (a ≡ true) ⊎ (b ≡ true)
or_true true b h = inl refl
or_true false b h = inr h

same_bytes : (xs ys : List ℕ) → bytes_eq xs ys ≡ true → xs ≡ ys
same_bytes xs ys h = (bytes_eq-Decides xs ys).0 h

rest_over : (command : List ℕ) (rest : List (List ℕ))
    → (bytes_eq command (codes "plain") || bytes_eq command (codes "correlate")) ≡ true
    → AllOverSources (rest_form command rest)
rest_over command rest h = elim (or_true (bytes_eq command (codes "plain")) (bytes_eq command (codes "correlate")) h) [
  | inl plain ↦ subst (λ k. AllOverSources (rest_form k rest)) (sym (same_bytes command (codes "plain") plain))
      (plain_rest rest)
  | inr correlate ↦ subst (λ k. AllOverSources (rest_form k rest))
      (sym (same_bytes command (codes "correlate") correlate)) (correlate_rest rest)
]

words_over : (words : List (List ℕ)) → names_over_sources words ≡ true → AllOverSources (form words)
words_over words h =
    either_over (nat_le 2 (length words)) (rest_form (word_at words 1) (drop 2 words)) None
    (rest_over (word_at words 1) (drop 2 words) h) none_over

some_of_form : (o : Option Command) → is_some o ≡ true → (c : Command) × (o ≡ Some c)
some_of_form None h = absurd cc
some_of_form (Some c) h = (c, refl)

-- words that are read may go on, where their numbers are not refused
pub may_go : (words : List (List ℕ)) → names_over_sources words ≡ true → is_some (form words) ≡ true
    → ((p : PlainWords) (refusal : SetRefusal) → form_of words ≡ Some (Plain p) → of_plain p ≡ Err refusal → ⊥)
    → MayGoOn words
unfolding AllOverSources
may_go words named some accepted =
    let (c, is) = some_of_form (form words) some in
    let built : is_over_sources c ≡ true = words_over words named c is in
    let formed : form_of words ≡ Some c =
    ap (option_and_then if_over_sources) is ∙ ap (λ b. cond b (Some c) None) built in
    record { command = c; is_form = formed; accepted = λ p refusal same. accepted p refusal (formed ∙ ap Some same) }

-- want of memory comes only where there is a form
pub none_of_memory : (told : Option Command) (e : WordRefusal)
    → ((e ≡ word.NoMemory) × (is_some told ≡ true)) ⊎ ((e ≡ word.Usage) × (told ≡ None)) → e ≡ word.NoMemory
    → is_some told ≡ true
none_of_memory told e (inl both) is = both.1
none_of_memory told e (inr both) is = absurd (let same : word.NoMemory ≡ word.Usage = sym is ∙ both.0 in cc)

-- settings that were said are not refused
said_may_go : (words : List (List ℕ)) (text : Option (List ℕ)) (run : Settings) (c : Command) → form_of words ≡ Some c
    → IsSaidBy c text (Ok run) → MayGoOn words
said_may_go words text run c is says = record {
  command = c;
  is_form = is;
  accepted = λ p refusal same refused. never c p refusal says same refused;
}
  where
    never : (c : Command) (p : PlainWords) (refusal : SetRefusal) → IsSaidBy c text (Ok run) → c ≡ Plain p
        → of_plain p ≡ Err refusal → ⊥
    never (Plain q) p refusal says same refused =
        let one : q ≡ p = cc in
        let ok : Result Settings SetRefusal = Ok run in
        let both : ok ≡ Err refusal = sym says ∙ (ap of_plain one ∙ refused) in absurd cc
    never (Correlate config serial) p refusal says same refused = absurd cc
    never (Trial config seed serial) p refusal says same refused = absurd says
    never (Simulate config seed antenna out) p refusal says same refused = absurd says
    never (Relay from to limit) p refusal says same refused = absurd says
    never (Inspect from) p refusal says same refused = absurd says
    never (Decode from limit) p refusal says same refused = absurd says

pub asked_may_go : (words : List (List ℕ)) (text : Option (List ℕ)) (run : Settings) → HasSaid words text (Ok run)
    → MayGoOn words
asked_may_go words text run h = said_may_go words text run h.command h.is_form h.says
