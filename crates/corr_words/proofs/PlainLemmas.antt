-- The numbers of the command `plain`, and that no other command has any.
use Rattle.std.proofs.Common.{◌≡◌, ℕ, Bool, true, false, List, [], ◌∷◌, ◌++◌, Option, Some, None, refl, sym, ap, ◌∙◌, ◌^◌, cond, append-nil}
use Rattle.std.specs.Prelude.{option_map, option_and_then, bytes_eq, codes, filter, not}
use Rattle.std.specs.List.{list_all, list_any}
use Rattle.corr_words.specs.Words.{is_flag, is_operand, number, takes_flag}
use Rattle.corr_words.specs.Forms.{command_form, correlate_form, decode_form, inspect_form, numbers_of, number_to, plain_form, relay_form, rest_form, simulate_form, sound_form, trial_form}

-- what is chosen has no numbers where neither has
neither : {C N : Type 0} (f : C → Option N) (b : Bool) (x y : Option C) → option_and_then f x ≡ None
    → option_and_then f y ≡ None → option_and_then f (cond b x y) ≡ None
neither f true x y h k = h
neither f false x y h k = k

mapped : {A C N : Type 0} (f : C → Option N) (g : A → C) → ((a : A) → f (g a) ≡ None) → (o : Option A)
    → option_and_then f (option_map g o) ≡ None
mapped f g h None = refl
mapped f g h (Some a) = h a

correlates : (serial : Bool) (operands : List (List ℕ))
    → option_and_then numbers_of (correlate_form serial operands) ≡ None
correlates serial [] = refl
correlates serial (config ∷ []) = refl
correlates serial (config ∷ x ∷ xs) = refl

tries : (serial : Bool) (operands : List (List ℕ)) → option_and_then numbers_of (trial_form serial operands) ≡ None
tries serial [] = refl
tries serial (config ∷ []) = refl
tries serial (config ∷ seed ∷ []) = mapped numbers_of _ (λ n. refl) (number seed)
tries serial (config ∷ seed ∷ x ∷ xs) = refl

sees : (operands : List (List ℕ)) → option_and_then numbers_of (inspect_form operands) ≡ None
sees [] = refl
sees (from ∷ []) = refl
sees (from ∷ x ∷ xs) = refl

decodes : (operands : List (List ℕ)) → option_and_then numbers_of (decode_form operands) ≡ None
decodes [] = refl
decodes (from ∷ []) = refl
decodes (from ∷ limit ∷ []) = mapped numbers_of _ (λ n. refl) (number_to (2 ^ 30) limit)
decodes (from ∷ limit ∷ x ∷ xs) = refl

relays : (operands : List (List ℕ)) → option_and_then numbers_of (relay_form operands) ≡ None
relays [] = refl
relays (from ∷ []) = refl
relays (from ∷ to ∷ []) = refl
relays (from ∷ to ∷ limit ∷ []) = mapped numbers_of _ (λ n. refl) (number_to (2 ^ 40) limit)
relays (from ∷ to ∷ limit ∷ x ∷ xs) = refl

chained : {A B C N : Type 0} (f : C → Option N) (g : A → B → C) → ((a : A) (b : B) → f (g a b) ≡ None)
    → (o : Option A) (p : Option B)
    → option_and_then f (option_and_then (λ a. option_map (g a) p) o) ≡ None
chained f g h None p = refl
chained f g h (Some a) p = mapped f (g a) (h a) p

simulates : (operands : List (List ℕ)) → option_and_then numbers_of (simulate_form operands) ≡ None
simulates [] = refl
simulates (config ∷ []) = refl
simulates (config ∷ seed ∷ []) = refl
simulates (config ∷ seed ∷ antenna ∷ []) = refl
simulates (config ∷ seed ∷ antenna ∷ out ∷ []) = chained numbers_of _ (λ n a. refl) (number seed) (number antenna)
simulates (config ∷ seed ∷ antenna ∷ out ∷ x ∷ xs) = refl

-- a command that is not `plain` has no numbers
others_in : (command : List ℕ) (serial : Bool) (operands : List (List ℕ)) → bytes_eq command (codes "plain") ≡ false
    → option_and_then numbers_of (command_form command serial operands) ≡ None
others_in command serial operands other =
    rw other
    (neither numbers_of (bytes_eq command (codes "correlate")) _ _ (correlates serial operands)
    (neither numbers_of (bytes_eq command (codes "trial")) _ _ (tries serial operands)
    (neither numbers_of (bytes_eq command (codes "simulate")) _ _ (simulates operands)
    (neither numbers_of (bytes_eq command (codes "relay")) _ _ (relays operands)
    (neither numbers_of (bytes_eq command (codes "inspect")) _ _ (sees operands)
    (neither numbers_of (bytes_eq command (codes "decode")) _ _ (decodes operands) refl))))))

others_sound : (command : List ℕ) (serial : Bool) (operands : List (List ℕ)) → bytes_eq command (codes "plain") ≡ false
    → option_and_then numbers_of (sound_form command serial operands) ≡ None
others_sound command serial operands other =
    neither numbers_of (list_all is_operand operands) (command_form command serial operands) None
    (others_in command serial operands other) refl

pub none_of_others : (command : List ℕ) (rest : List (List ℕ)) → bytes_eq command (codes "plain") ≡ false
    → option_and_then numbers_of (rest_form command rest) ≡ None
none_of_others command rest other =
    neither numbers_of _ (sound_form command (list_any is_flag rest) (filter (λ word. not (is_flag word)) rest))
    (sound_form command false rest)
    (others_sound command (list_any is_flag rest) (filter (λ word. not (is_flag word)) rest) other)
    (others_sound command false rest other)

-- the words after `plain` say what its operands say
pub rest_of_plain : (rest : List (List ℕ))
    → rest_form (codes "plain") rest ≡ cond (list_all is_operand rest) (plain_form rest) None
rest_of_plain rest = refl
