-- Datagrams that are printed one after another.
use Rattle.std.proofs.Common.{◌≡◌, ℕ, ◌+◌, ◌≤◌, Bool, List, [], ◌∷◌, ◌++◌, length, Option, Some, take, refl, sym, ap, subst, ◌∙◌, arith}
use Rattle.std.specs.Prelude.{Result, Ok}
use Rattle.std.proofs.lemmas.List.{append_assoc, append-nil}
use Rattle.corr_site.specs.Outside.{GaveAll, HasCause, NextGives, Writes}
use Rattle.corr_site.specs.declared.answers.Failed.{Failed}
use Rattle.corr_site.specs.declared.answers.Next.TheVariants as next
use Rattle.corr_site.proofs.Laws.{appended_nothing}
use Rattle.corr_report.specs.Inspected.{datagrams_text}
use Rattle.corr_tools.specs.declared.inspecting.Inspected.{Inspected}
use Rattle.corr_tools.specs.Printing.{GoesOn, GoesOnCause}
use Rattle.corr_tools.specs.Taking.{string_limit}
use Rattle.corr_tools.specs.Inspecting.{Inspects, datagram_text, datagrams_from, fault_text, inspect_text}
use Rattle.corr_tools.proofs.TakenLemmas.{IsTaking, none_taken, took_all, took_limit, took_more}
use Rattle.corr_tools.proofs.RelayLemmas.{KeepsSource}
use Rattle.corr_tools.proofs.TextLemmas.{caused_more, written_more}

-- one datagram more
pub datagrams_more : (place : ℕ) (strings : List (List ℕ)) (bytes : List ℕ)
    → datagrams_from place (strings ++ bytes ∷ [])
    ≡ datagrams_from place strings ++ datagram_text (place + length strings) bytes
datagrams_more place [] bytes =
    let here : place ≡ place + 0 = omega arith in
    append-nil (datagram_text place bytes) ∙ ap (λ n. datagram_text n bytes) here
datagrams_more place (s ∷ strings) bytes =
    let here : place + 1 + length strings ≡ place + length (s ∷ strings) = omega arith in
    ap (λ t. datagram_text place s ++ t)
    (datagrams_more (place + 1) strings bytes ∙ ap
    (λ n. datagrams_from (place + 1) strings ++ datagram_text n bytes) here)
    ∙ sym (append_assoc (datagram_text place s) (datagrams_from (place + 1) strings)
    (datagram_text (place + length (s ∷ strings)) bytes))

-- so many datagrams were taken, and their lines printed
pub record IsInspecting {T E : Type 0} (gives : Option (List (List ℕ))) (given now count : ℕ)
    (before after : Option (List ℕ)) (faults_before faults : ℕ) (printed : Result T E) : Type 0 where
  pub strings : List (List ℕ)
  pub taking : IsTaking gives given now count strings
  pub written : Writes before after printed (datagrams_from 0 strings)
  pub cause : HasCause faults_before faults printed

-- what holds before each datagram of an inspection
pub record InspectLoop {S P A : Type 0} {T E : Type 0} (begun : S → Bool) (at : S → A)
    (gives : S → Option (List (List ℕ))) (belongs : S → ℕ → Type 0) (given faults : S → ℕ)
    (written : P → Option (List ℕ)) (print_faults : P → ℕ)
    (source_old source : S) (print_old print : P) (count : ℕ) (printed : Result T E) : Type 0 where
  pub source_keeps : KeepsSource begun at gives belongs faults source_old source
  pub inspecting : IsInspecting (gives source_old) (given source_old) (given source) count (written print_old)
      (written print) (print_faults print_old) (print_faults print) printed

pub none_inspected : {T E : Type 0} (gives : Option (List (List ℕ))) (given : ℕ) (before : Option (List ℕ)) (faults : ℕ)
    (x : T) → IsInspecting {T = T} {E = E} gives given given 0 before before faults faults (Ok x)
none_inspected {T} {E} gives given before faults x = record {
  strings = [];
  taking = none_taken gives given;
  written = appended_nothing before;
  cause = record { later = omega arith; failed = tt; kept = refl };
}

pub inspected_more : {T E : Type 0} (gives told : Option (List (List ℕ))) (given mid now count n : ℕ)
    (before after last : Option (List ℕ)) (faults_before faults_mid faults : ℕ) (printed r : Result T E)
    (buf bytes : List ℕ)
    → IsInspecting gives given mid count before after faults_before faults_mid printed → told ≡ gives
    → NextGives told mid now buf (next.Packet n) → bytes ≡ take n buf
    → GoesOn printed after last r (datagram_text count bytes) → GoesOnCause printed faults_mid faults r
    → IsInspecting gives given now (count + 1) before last faults_before faults r
inspected_more gives told given mid now count n before after last faults_before faults_mid faults printed r buf bytes h
    same k front text cause =
    let place : count ≡ 0 + length h.strings = omega (arith, h.taking.as_many) in
    record {
      strings = h.strings ++ bytes ∷ [];
      taking = took_more gives given mid now count n h.strings buf bytes h.taking
          (subst (λ g. NextGives g mid now buf (next.Packet n)) same k) front;
      written = subst (λ t. Writes before last r t)
          (sym (datagrams_more 0 h.strings bytes ∙ ap
          (λ m. datagrams_from 0 h.strings ++ datagram_text m bytes) (sym place)))
          (written_more before after last printed r (datagrams_from 0 h.strings) (datagram_text count bytes)
          h.written text);
      cause = caused_more faults_before faults_mid faults after last printed r (datagram_text count bytes)
          h.cause text cause;
    }

-- the last lines
pub inspected_end : {T E : Type 0} (strings : List (List ℕ)) (count : ℕ) (before after last : Option (List ℕ))
    (printed : Result T E) (source print : Result T E) → length strings ≡ count
    → Writes before after printed (datagrams_from 0 strings)
    → GoesOn printed after last print (datagrams_text count ++ fault_text source)
    → Writes before last print (inspect_text strings source)
inspected_end strings count before after last printed source print as_many h text =
    subst (λ m. Writes before last print (datagrams_from 0 strings ++ (datagrams_text m ++ fault_text source)))
    (sym as_many)
    (written_more before after last printed print (datagrams_from 0 strings)
    (datagrams_text count ++ fault_text source) h text)

pub inspects_all : (gives told : Option (List (List ℕ))) (given mid now count : ℕ)
    (before after final : Option (List ℕ)) (faults_before faults : ℕ) (printed source : Result Unit Failed)
    (result : Inspected)
    → IsInspecting gives given mid count before after faults_before faults printed → told ≡ gives
    → ((strings : List (List ℕ)) → told ≡ Some strings → GaveAll strings mid now) → count ≤ string_limit
    → result.source ≡ source → GoesOn printed after final result.print (datagrams_text count ++ fault_text source)
    → Inspects gives given now before final result
inspects_all gives told given mid now count before after final faults_before faults printed source result h same ends
    few is text = record {
      taken = h.strings;
      takes = took_all gives given mid now count string_limit h.strings h.taking
          (λ strings told_is. ends strings (same ∙ told_is)) few;
      written = subst (λ s. Writes before final result.print (inspect_text h.strings s)) (sym is)
          (inspected_end h.strings count before after final printed source result.print h.taking.as_many h.written text);
    }

pub inspects_limit : (gives : Option (List (List ℕ))) (given now count : ℕ) (before after final : Option (List ℕ))
    (faults_before faults : ℕ) (printed source : Result Unit Failed) (result : Inspected)
    → IsInspecting gives given now count before after faults_before faults printed → count ≡ string_limit
    → result.source ≡ source
    → GoesOn printed after final result.print (datagrams_text string_limit ++ fault_text source)
    → Inspects gives given now before final result
inspects_limit gives given now count before after final faults_before faults printed source result h full is text =
    record {
      taken = h.strings;
      takes = took_limit gives given now count string_limit h.strings h.taking full;
      written = subst (λ s. Writes before final result.print (inspect_text h.strings s)) (sym is)
          (inspected_end h.strings string_limit before after final printed source result.print (h.taking.as_many ∙ full)
          h.written text);
    }
