-- A source that is read, and what a relay sends of it.
use Rattle.std.proofs.Common.{◌≡◌, ℕ, ◌+◌, ◌≤◌, Bool, true, false, List, [], ◌∷◌, ◌++◌, Option, Some, take, sym, subst, ◌∙◌}
use Rattle.std.specs.Prelude.{Result, Ok, Err, is_err}
use Rattle.corr_site.specs.Outside.{Appended, GaveAll, HasCause, NextGives, Rises, Sends}
use Rattle.corr_site.specs.declared.answers.Next.TheVariants as next
use Rattle.corr_site.proofs.Laws.{appended_nothing, Appended-then}
use Rattle.corr_tools.specs.Relaying.{SendsAll, SendsFirst}
use Rattle.corr_tools.proofs.TakenLemmas.{IsTaking, none_taken, took_all, took_first, took_limit, took_more}

-- what stays of a source that is read and did not fail
pub record KeepsSource {S A B : Type 0} (begun : S → Bool) (at : S → A) (gives : S → B) (belongs : S → ℕ → Type 0)
    (faults : S → ℕ) (old now : S) : Type 0 where
  pub is_begun : begun now ≡ true
  pub same_at : at now ≡ at old
  pub same_gives : gives now ≡ gives old
  pub still_belongs : (a : ℕ) → belongs old a → belongs now a
  pub calm : faults now ≡ faults old

-- what stays of a sink that did not fail
pub record KeepsSink {K A : Type 0} (begun : K → Bool) (at : K → A) (faults : K → ℕ) (old now : K) : Type 0 where
  pub is_begun : begun now ≡ true
  pub same_at : at now ≡ at old
  pub calm : faults now ≡ faults old

-- so many strings were taken and sent
pub record IsRelaying (gives : Option (List (List ℕ))) (given now count : ℕ)
    (before after : Option (List (List ℕ))) : Type 0 where
  pub strings : List (List ℕ)
  pub taking : IsTaking gives given now count strings
  pub sent : Appended before strings after

-- what holds before each string of a relay
pub record RelayLoop {S K A B : Type 0} (begun : S → Bool) (at : S → A) (gives : S → Option (List (List ℕ)))
    (belongs : S → ℕ → Type 0) (given faults : S → ℕ) (sink_begun : K → Bool) (sink_at : K → B)
    (sent : K → Option (List (List ℕ))) (sink_faults : K → ℕ)
    (source_old source : S) (sink_old sink : K) (count : ℕ) : Type 0 where
  pub source_keeps : KeepsSource begun at gives belongs faults source_old source
  pub sink_keeps : KeepsSink sink_begun sink_at sink_faults sink_old sink
  pub relaying : IsRelaying (gives source_old) (given source_old) (given source) count (sent sink_old) (sent sink)

pub none_relayed : (gives : Option (List (List ℕ))) (given : ℕ) (before : Option (List (List ℕ)))
    → IsRelaying gives given given 0 before before
none_relayed gives given before =
    record { strings = []; taking = none_taken gives given; sent = appended_nothing before }

-- a send that did not fail
sent_string : {T E : Type 0} (before now : Option (List (List ℕ))) (r : Result T E) (bytes : List ℕ) → is_err r ≡ false
    → Sends before now r bytes → Appended before (bytes ∷ []) now
sent_string before now (Ok x) bytes h k = k
sent_string before now (Err e) bytes h k = absurd cc

pub relayed_more : {T E : Type 0} (gives told : Option (List (List ℕ))) (given mid now count n : ℕ)
    (before after last : Option (List (List ℕ))) (buf bytes : List ℕ) (r : Result T E)
    → IsRelaying gives given mid count before after → told ≡ gives → NextGives told mid now buf (next.Packet n)
    → bytes ≡ take n buf → is_err r ≡ false → Sends after last r bytes
    → IsRelaying gives given now (count + 1) before last
relayed_more gives told given mid now count n before after last buf bytes r h same k front works sends = record {
  strings = h.strings ++ bytes ∷ [];
  taking = took_more gives given mid now count n h.strings buf bytes h.taking
      (subst (λ g. NextGives g mid now buf (next.Packet n)) same k) front;
  sent = Appended-then before after last h.strings (bytes ∷ []) h.sent (sent_string after last r bytes works sends);
}

-- a send that failed
unsent_string : {T E : Type 0} (before now : Option (List (List ℕ))) (r : Result T E) (bytes : List ℕ) → is_err r ≡ true
    → Sends before now r bytes → now ≡ before
unsent_string before now (Ok x) bytes h k = absurd cc
unsent_string before now (Err e) bytes h k = k

pub relayed_front : {T E : Type 0} (gives told : Option (List (List ℕ))) (given mid now count limit n : ℕ)
    (before after last : Option (List (List ℕ))) (buf bytes : List ℕ) (r : Result T E)
    → IsRelaying gives given mid count before after → told ≡ gives → NextGives told mid now buf (next.Packet n)
    → bytes ≡ take n buf → is_err r ≡ true → Sends after last r bytes → count + 1 ≤ limit
    → SendsFirst gives given now limit before last
relayed_front gives told given mid now count limit n before after last buf bytes r h same k front fails sends few =
    record {
      strings = h.strings;
      unsent = bytes;
      taken = took_first gives given now (count + 1) limit (h.strings ++ bytes ∷ [])
          (took_more gives given mid now count n h.strings buf bytes h.taking
          (subst (λ g. NextGives g mid now buf (next.Packet n)) same k) front) few;
      sent = unsent_string after last r bytes fails sends ∙ h.sent;
    }

pub relayed_all : (gives told : Option (List (List ℕ))) (given mid now count limit : ℕ)
    (before after : Option (List (List ℕ))) → IsRelaying gives given mid count before after → told ≡ gives
    → ((strings : List (List ℕ)) → told ≡ Some strings → GaveAll strings mid now) → count ≤ limit
    → SendsAll gives given now limit before after count
relayed_all gives told given mid now count limit before after h same ends few = record {
  strings = h.strings;
  taken = took_all gives given mid now count limit h.strings h.taking (λ strings is. ends strings (same ∙ is)) few;
  sent = h.sent;
  counted = sym h.taking.as_many;
}

pub relayed_limit : (gives : Option (List (List ℕ))) (given now count limit : ℕ) (before after : Option (List (List ℕ)))
    → IsRelaying gives given now count before after → count ≡ limit → SendsAll gives given now limit before after limit
relayed_limit gives given now count limit before after h full = record {
  strings = h.strings;
  taken = took_limit gives given now count limit h.strings h.taking full;
  sent = h.sent;
  counted = sym full ∙ sym h.taking.as_many;
}

-- one call more of a source that did not fail
pub keeps_on : {S A B : Type 0} (begun : S → Bool) (at : S → A) (gives : S → B) (belongs : S → ℕ → Type 0)
    (faults : S → ℕ) (old mid now : S) → KeepsSource begun at gives belongs faults old mid → begun now ≡ true
    → at now ≡ at mid → gives now ≡ gives mid
    → ((a : ℕ) → belongs mid a → belongs now a) → faults now ≡ faults mid
    → KeepsSource begun at gives belongs faults old now
keeps_on begun at gives belongs faults old mid now h is_begun same_at same_gives still calm = record {
  is_begun = is_begun;
  same_at = same_at ∙ h.same_at;
  same_gives = same_gives ∙ h.same_gives;
  still_belongs = λ a b. still a (h.still_belongs a b);
  calm = calm ∙ h.calm;
}

-- one call more of a sink that did not fail
pub sink_on : {K A : Type 0} (begun : K → Bool) (at : K → A) (faults : K → ℕ) (old mid now : K)
    → KeepsSink begun at faults old mid → begun now ≡ true → at now ≡ at mid → faults now ≡ faults mid
    → KeepsSink begun at faults old now
sink_on begun at faults old mid now h is_begun same_at calm =
    record { is_begun = is_begun; same_at = same_at ∙ h.same_at; calm = calm ∙ h.calm }

-- ---- causes

-- the count rises where a call failed, and stays where it did not
pub rose_by : {T E : Type 0} (before now : ℕ) (r : Result T E) → is_err r ≡ true → HasCause before now r
    → Rises before now
rose_by before now (Ok x) h k = absurd cc
rose_by before now (Err e) h k = record { later = k.later; rose = k.failed }

pub calm_by : {T E : Type 0} (before now : ℕ) (r : Result T E) → is_err r ≡ false → HasCause before now r → now ≡ before
calm_by before now (Ok x) h k = k.kept
calm_by before now (Err e) h k = absurd cc
