-- Which command words say, by the name that stands second.
use Rattle.std.proofs.Common.{◌≡◌, ◌↔◌, ℕ, Bool, true, false, List, [], ◌∷◌, drop, length, Option, Some, None, refl, sym, ap, ◌∙◌, subst, cond, inl, inr}
use Rattle.std.specs.Prelude.{IsNone, ◌||◌, option_and_then, option_map, bytes_eq, codes, filter, nat_le, not}
use Rattle.std.specs.List.{list_all, list_any}
use Rattle.corr_words.specs.declared.command.Command.{Command}
use Rattle.corr_words.specs.declared.command.Command.TheVariants.{Plain, Correlate, Trial, Simulate, Relay, Inspect, Decode}
use Rattle.corr_words.specs.Words.{is_flag, is_operand, number, word_at}
use Rattle.corr_words.specs.Forms.{command_form, form, rest_form, simulate_form, sound_form, trial_form}
use Rattle.corr_cli.specs.Said.{form_of, if_over_sources, needs_text}
use Rattle.corr_cli.specs.Tools.{names_tool}
use Rattle.corr_cli.specs.Simulating.{IsOfSimulated, IsTrial, names_simulated, reads_settings}
use Rattle.corr_cli.proofs.SaidLemmas.{AllOverSources, correlate_over, either_over, none_over, plain_over, other_words}
use Rattle.corr_cli.proofs.ToolLemmas.{named_so, or_true, same_bytes}

-- where there is a command, it is `trial`
abbrev pub AreTrials : Option Command → Type 0
AreTrials None = Unit {0}
AreTrials (Some c) = IsTrial c

either_trial : (b : Bool) (x y : Option Command) → AreTrials x → AreTrials y → AreTrials (cond b x y)
either_trial true x y h k = h
either_trial false x y h k = k

mapped_trial : {A : Type 0} (g : A → Command) → ((a : A) → IsTrial (g a)) → (o : Option A) → AreTrials (option_map g o)
mapped_trial g h None = tt
mapped_trial g h (Some a) = h a

trial_operands : (serial : Bool) (operands : List (List ℕ)) → AreTrials (trial_form serial operands)
trial_operands serial [] = tt
trial_operands serial (config ∷ []) = tt
trial_operands serial (config ∷ seed ∷ []) = mapped_trial _ (λ n. tt) (number seed)
trial_operands serial (config ∷ seed ∷ x ∷ xs) = tt

trial_sound : (serial : Bool) (operands : List (List ℕ)) → AreTrials (sound_form (codes "trial") serial operands)
trial_sound serial operands =
    either_trial (list_all is_operand operands) (trial_form serial operands) None (trial_operands serial operands) tt

trial_rest : (rest : List (List ℕ)) → AreTrials (rest_form (codes "trial") rest)
trial_rest rest =
    either_trial (nat_le (length (filter is_flag rest)) 1)
    (sound_form (codes "trial") (list_any is_flag rest) (filter (λ word. not (is_flag word)) rest))
    (sound_form (codes "trial") false rest)
    (trial_sound (list_any is_flag rest) (filter (λ word. not (is_flag word)) rest)) (trial_sound false rest)

words_trial : (words : List (List ℕ)) → bytes_eq (word_at words 1) (codes "trial") ≡ true → AreTrials (form words)
words_trial words is =
    either_trial (nat_le 2 (length words)) (rest_form (word_at words 1) (drop 2 words)) None
    (subst (λ k. AreTrials (rest_form k (drop 2 words))) (sym (same_bytes (word_at words 1) (codes "trial") is))
    (trial_rest (drop 2 words))) tt

-- the command of words that name it is `trial`
pub is_trial : (words : List (List ℕ)) (c : Command) → bytes_eq (word_at words 1) (codes "trial") ≡ true
    → form words ≡ Some c → IsTrial c
is_trial words c is e = subst AreTrials e (words_trial words is)

-- where there is a command, it is one over simulated inputs
abbrev pub AreSimulators : Option Command → Type 0
AreSimulators None = Unit {0}
AreSimulators (Some c) = IsOfSimulated c

either_simulator : (b : Bool) (x y : Option Command) → AreSimulators x → AreSimulators y → AreSimulators (cond b x y)
either_simulator true x y h k = h
either_simulator false x y h k = k

mapped_simulator : {A : Type 0} (g : A → Command) → ((a : A) → IsOfSimulated (g a)) → (o : Option A)
    → AreSimulators (option_map g o)
mapped_simulator g h None = tt
mapped_simulator g h (Some a) = h a

chained_simulator : {A B : Type 0} (g : A → B → Command) → ((a : A) (b : B) → IsOfSimulated (g a b))
    → (o : Option A) (p : Option B) → AreSimulators (option_and_then (λ a. option_map (g a) p) o)
chained_simulator g h None p = tt
chained_simulator g h (Some a) p = mapped_simulator (g a) (h a) p

simulate_simulator : (operands : List (List ℕ)) → AreSimulators (simulate_form operands)
simulate_simulator [] = tt
simulate_simulator (config ∷ []) = tt
simulate_simulator (config ∷ seed ∷ []) = tt
simulate_simulator (config ∷ seed ∷ antenna ∷ []) = tt
simulate_simulator (config ∷ seed ∷ antenna ∷ out ∷ []) = chained_simulator _ (λ n a. tt) (number seed) (number antenna)
simulate_simulator (config ∷ seed ∷ antenna ∷ out ∷ x ∷ xs) = tt

trial_simulates : (o : Option Command) → AreTrials o → AreSimulators o
trial_simulates None h = tt
trial_simulates (Some (Trial config seed serial)) h = tt
trial_simulates (Some (Simulate config seed antenna out)) h = tt
trial_simulates (Some (Plain p)) h = absurd h
trial_simulates (Some (Correlate config serial)) h = absurd h
trial_simulates (Some (Relay from to limit)) h = absurd h
trial_simulates (Some (Inspect from)) h = absurd h
trial_simulates (Some (Decode from limit)) h = absurd h

simulate_rest : (rest : List (List ℕ)) → AreSimulators (rest_form (codes "simulate") rest)
simulate_rest rest = either_simulator (list_all is_operand rest) (simulate_form rest) None (simulate_simulator rest) tt

rest_simulator : (command : List ℕ) (rest : List (List ℕ))
    → (bytes_eq command (codes "trial") || bytes_eq command (codes "simulate")) ≡ true
    → AreSimulators (rest_form command rest)
rest_simulator command rest h =
    elim (or_true (bytes_eq command (codes "trial")) (bytes_eq command (codes "simulate")) h) [
      | inl is ↦ subst (λ k. AreSimulators (rest_form k rest)) (sym (same_bytes command (codes "trial") is))
          (trial_simulates (rest_form (codes "trial") rest) (trial_rest rest))
      | inr is ↦ subst (λ k. AreSimulators (rest_form k rest)) (sym (same_bytes command (codes "simulate") is))
          (simulate_rest rest)
    ]

words_simulator : (words : List (List ℕ)) → names_simulated words ≡ true → AreSimulators (form words)
words_simulator words h =
    either_simulator (nat_le 2 (length words)) (rest_form (word_at words 1) (drop 2 words)) None
    (rest_simulator (word_at words 1) (drop 2 words) h) tt

-- the command of words that name one over simulated inputs is such a one
pub is_of_simulated : (words : List (List ℕ)) (c : Command) → names_simulated words ≡ true → form words ≡ Some c
    → IsOfSimulated c
is_of_simulated words c h e = subst AreSimulators e (words_simulator words h)

-- words over simulated inputs ask for nothing that correlates the sources
pub simulated_is_no_run : (words : List (List ℕ)) → names_simulated words ≡ true → form_of words ≡ None
simulated_is_no_run words h =
    let word = word_at words 1 in
    other_words words (elim (or_true (bytes_eq word (codes "trial")) (bytes_eq word (codes "simulate")) h) [
      | inl is ↦ named_so word (codes "trial") is refl
      | inr is ↦ named_so word (codes "simulate") is refl
    ])

or_none : (a b : Bool) → (a || b) ≡ false → (a ≡ false) × (b ≡ false)
or_none false b h = (refl, h)
or_none true b h = absurd cc

-- what is left of a chain of commands of which none from the third on is named
chain_over : (p c t s r i d : Bool) (x y u v w a b : Option Command) → AllOverSources x → AllOverSources y → t ≡ false
    → s ≡ false → r ≡ false → i ≡ false → d ≡ false
    → AllOverSources (cond p x (cond c y (cond t u (cond s v (cond r w (cond i a (cond d b None)))))))
chain_over true c t s r i d x y u v w a b h k et es er ei ed = h
chain_over false true t s r i d x y u v w a b h k et es er ei ed = k
chain_over false false t s r i d x y u v w a b h k et es er ei ed = rw (et, es, er, ei, ed) none_over

-- none of the names of tools and of commands over simulated inputs
pub record IsOther (command : List ℕ) : Type 0 where
  pub trial : bytes_eq command (codes "trial") ≡ false
  pub simulate : bytes_eq command (codes "simulate") ≡ false
  pub relay : bytes_eq command (codes "relay") ≡ false
  pub inspect : bytes_eq command (codes "inspect") ≡ false
  pub decode : bytes_eq command (codes "decode") ≡ false

command_over : (command : List ℕ) (serial : Bool) (operands : List (List ℕ)) → IsOther command
    → AllOverSources (command_form command serial operands)
command_over command serial operands o =
    chain_over (bytes_eq command (codes "plain")) (bytes_eq command (codes "correlate"))
    (bytes_eq command (codes "trial")) (bytes_eq command (codes "simulate"))
    (bytes_eq command (codes "relay")) (bytes_eq command (codes "inspect"))
    (bytes_eq command (codes "decode")) _ _ _ _ _ _ _
    (plain_over operands) (correlate_over serial operands) o.trial o.simulate o.relay o.inspect o.decode

sound_over : (command : List ℕ) (serial : Bool) (operands : List (List ℕ)) → IsOther command
    → AllOverSources (sound_form command serial operands)
sound_over command serial operands o =
    either_over (list_all is_operand operands) (command_form command serial operands) None
    (command_over command serial operands o) none_over

other_over : (command : List ℕ) (rest : List (List ℕ)) → IsOther command → AllOverSources (rest_form command rest)
other_over command rest o =
    either_over _ (sound_form command (list_any is_flag rest) (filter (λ word. not (is_flag word)) rest))
    (sound_form command false rest)
    (sound_over command (list_any is_flag rest) (filter (λ word. not (is_flag word)) rest) o)
    (sound_over command false rest o)

words_other : (words : List (List ℕ)) → names_tool words ≡ false → names_simulated words ≡ false
    → IsOther (word_at words 1)
words_other words tool simulator =
    let word = word_at words 1 in
    let both = or_none (bytes_eq word (codes "trial")) (bytes_eq word (codes "simulate")) simulator in
    let first = or_none (bytes_eq word (codes "relay"))
    (bytes_eq word (codes "inspect") || bytes_eq word (codes "decode")) tool in
    let later = or_none (bytes_eq word (codes "inspect")) (bytes_eq word (codes "decode")) first.1 in
    record { trial = both.0; simulate = both.1; relay = first.0; inspect = later.0; decode = later.1 }

all_same : (o : Option Command) → AllOverSources o → option_and_then if_over_sources o ≡ o
unfolding AllOverSources
all_same None h = refl
all_same (Some c) h = ap (λ b. cond b (Some c) None) (h c refl)

-- of other words each form is one that correlates the sources
pub same_form : (words : List (List ℕ)) → names_tool words ≡ false → names_simulated words ≡ false
    → form_of words ≡ form words
same_form words tool simulator =
    all_same (form words)
    (either_over (nat_le 2 (length words)) (rest_form (word_at words 1) (drop 2 words)) None
    (other_over (word_at words 1) (drop 2 words) (words_other words tool simulator)) none_over)

-- the usage of words that name no tool and no simulated inputs
pub other_usage : (words : List (List ℕ)) (code : ℕ) → names_tool words ≡ false → names_simulated words ≡ false
    → (code ≡ 1) ↔ IsNone (form_of words) → (code ≡ 1) ↔ IsNone (form words)
other_usage words code tool simulator h = subst (λ k. (code ≡ 1) ↔ IsNone k) (same_form words tool simulator) h

-- words that read no settings over anything read none for a run over the sources
pub reads_none : (words : List (List ℕ)) → reads_settings words ≡ false → needs_text words ≡ false
reads_none words h = by (form words) refl h
  where
    by : (o : Option Command) → form words ≡ o → reads_settings words ≡ false → needs_text words ≡ false
    by None e h = rw e refl
    by (Some (Plain p)) e h = rw e refl
    by (Some (Correlate config serial)) e h = absurd (let clash : true ≡ false = sym (rw e refl) ∙ h in cc)
    by (Some (Trial config seed serial)) e h = rw e refl
    by (Some (Simulate config seed antenna out)) e h = rw e refl
    by (Some (Relay from to limit)) e h = rw e refl
    by (Some (Inspect from)) e h = rw e refl
    by (Some (Decode from limit)) e h = rw e refl

-- words over simulated inputs that read no settings have no form
pub unread_words : (words : List (List ℕ)) → names_simulated words ≡ true → reads_settings words ≡ false
    → form words ≡ None
unread_words words named h = by (form words) refl
  where
    by : (o : Option Command) → form words ≡ o → form words ≡ None
    by None e = e
    by (Some (Trial config seed serial)) e = absurd (let clash : true ≡ false = sym (rw e refl) ∙ h in cc)
    by (Some (Simulate config seed antenna out)) e = absurd (let clash : true ≡ false = sym (rw e refl) ∙ h in cc)
    by (Some (Plain p)) e = absurd (is_of_simulated words (Plain p) named e)
    by (Some (Correlate config serial)) e = absurd (is_of_simulated words (Correlate config serial) named e)
    by (Some (Relay from to limit)) e = absurd (is_of_simulated words (Relay from to limit) named e)
    by (Some (Inspect from)) e = absurd (is_of_simulated words (Inspect from) named e)
    by (Some (Decode from limit)) e = absurd (is_of_simulated words (Decode from limit) named e)
