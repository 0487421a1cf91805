-- What the words of a run in threads ask for, and the output of the observation that is written out.
use Rattle.std.proofs.Common.{◌≡◌, ℕ, true, List, [], ◌∷◌, Some, is_some, refl, sym, ap, ◌∙◌, subst}
use Rattle.corr_model.specs.Outputs.{output}
use Rattle.corr_model.specs.ExamplesOutput.{head_bytes, heap_bytes, stop_bytes}
use Rattle.corr_site.specs.Outside.{Appended}
use Rattle.corr_examples.specs.Literals.{literal_list, literal_plan, literal_words}
use Rattle.corr_cli.specs.Said.{form_of}
use Rattle.corr_cli.specs.Observed.{asks_threads}

-- the words ask for threads
pub asks : (words : List (List ℕ)) → words ≡ literal_words → asks_threads words ≡ true
asks words same = subst (λ ws. asks_threads ws ≡ true) (sym same) refl

-- the words have a form
pub has_form : (words : List (List ℕ)) → words ≡ literal_words → is_some (form_of words) ≡ true
has_form words same = subst (λ ws. is_some (form_of ws) ≡ true) (sym same) refl

-- what stands in a sink to which nothing was sent before
pub sent_all : (before strings now : List (List ℕ)) → before ≡ [] → Appended (Some before) strings (Some now)
    → now ≡ strings
sent_all before strings now none appended = cc

-- the output, byte for byte, with any number of workers
pub literal_output : (workers : ℕ)
    → output (literal_plan workers) literal_list ≡ head_bytes ∷ heap_bytes ∷ stop_bytes ∷ []
literal_output workers = refl
