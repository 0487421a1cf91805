-- The lines on the pointers of a packet.
use Rattle.std.proofs.Common.{◌≡◌, ℕ, List, [], ◌∷◌, ◌++◌, All, Option, refl, sym, ◌∙◌, subst}
use Rattle.std.specs.List.{flat_map}
use Rattle.std.proofs.lemmas.List.Elements.{All-tail}
use Rattle.corr_model.specs.declared.pointer.Pointer.{Pointer}
use Rattle.corr_report.specs.Inspected.{pointer_text}
use Rattle.spead_wire.specs.Widths.{IsHeapPointer}
use Rattle.corr_site.specs.Outside.{Appended, AppendsFront}
use Rattle.corr_site.proofs.Laws.{appended_nothing}
use Rattle.corr_tools.proofs.TextLemmas.{Lines, lines_all, lines_front, lines_next, lines_none}

-- the lines on the pointers before these were written
pub record IsPrinting (all rest : List Pointer) (before now : Option (List ℕ)) (faults_before faults : ℕ) : Type 0 where
  pub done : List Pointer
  pub lines : Lines pointer_text [] all done rest before now faults_before faults
  pub own : All IsHeapPointer rest

pub none_printed : (all items rest : List Pointer) (before : Option (List ℕ)) (faults : ℕ) → rest ≡ items → items ≡ all
    → All IsHeapPointer items → IsPrinting all rest before before faults faults
none_printed all items rest before faults is same own =
    let whole : IsPrinting all all before before faults faults = record {
      done = [];
      lines = lines_none pointer_text [] all before before faults faults (appended_nothing before) refl;
      own = subst (All IsHeapPointer) same own;
    } in
    subst (λ r. IsPrinting all r before before faults faults) (sym (is ∙ same)) whole

pub printed_next : (all left rest : List Pointer) (p : Pointer) (before mid now : Option (List ℕ))
    (faults_before faults_mid faults : ℕ) → IsPrinting all left before mid faults_before faults_mid → left ≡ p ∷ rest
    → Appended mid (pointer_text p) now → faults ≡ faults_mid → IsPrinting all rest before now faults_before faults
printed_next all left rest p before mid now faults_before faults_mid faults h is text calm = record {
  done = h.done ++ p ∷ [];
  lines = lines_next pointer_text [] all h.done rest p before mid now faults_before faults_mid faults
      (subst (λ r. Lines pointer_text [] all h.done r before mid faults_before faults_mid) is h.lines) text calm;
  own = All-tail IsHeapPointer p rest (subst (All IsHeapPointer) is h.own);
}

pub printed_front : (all left rest : List Pointer) (p : Pointer) (before mid now : Option (List ℕ))
    (faults_before faults_mid : ℕ) → IsPrinting all left before mid faults_before faults_mid → left ≡ p ∷ rest
    → AppendsFront mid now (pointer_text p)
    → AppendsFront before now (flat_map pointer_text all)
printed_front all left rest p before mid now faults_before faults_mid h is text =
    lines_front pointer_text [] all h.done rest p before mid now faults_before faults_mid
    (subst (λ r. Lines pointer_text [] all h.done r before mid faults_before faults_mid) is h.lines) text

pub printed_all : (all left : List Pointer) (before now : Option (List ℕ)) (faults_before faults : ℕ)
    → IsPrinting all left before now faults_before faults → left ≡ [] → Appended before (flat_map pointer_text all) now
printed_all all left before now faults_before faults h is =
    lines_all pointer_text [] all h.done before now faults_before faults
    (subst (λ r. Lines pointer_text [] all h.done r before now faults_before faults) is h.lines)
