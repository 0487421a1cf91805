-- A source in memory meets what the trait of sources asks.
use Rattle.std.proofs.Common.{ℕ, ◌≡◌, ◌^◌, ◌<◌, ◌≤◌, zero, suc, min, Bool, true, false, Option, Some, List, [], ◌∷◌, ◌++◌, length, take, refl, sym, ◌∙◌, ap, subst, inl, inr, arith}
use Rattle.std.specs.List.{list_any, slice_get, slice_index_or}
use Rattle.std.specs.Prelude.{◌==◌}
use Rattle.std.specs.Global.{Vec}
use Rattle.std.proofs.lemmas.Bool.Decides.{eqb_tells}
use Rattle.std.proofs.lemmas.Option.{slice_get-map, slice_get-get_or}
use Rattle.std.proofs.lemmas.List.{length-take-le, length-map}
use Rattle.std.proofs.Math.Seq.{take-append_seam}
use Rattle.corr_site.specs.declared.answers.Next.{Next}
use Rattle.corr_site.specs.declared.answers.Next.TheVariants as next
use Rattle.corr_site.specs.declared.place.Place.{Place}
use Rattle.corr_site.specs.Outside.{NextGives, GivesString, GaveAll}
use Rattle.corr_site.specs.Memory.{Faults, Source, one_more, is_failing, called_or_raised, least_call, strings_of, source_cut, source_gives, source_given, source_called, SourceAnswers, Gives}

-- the least is no greater than the number of strings
pub least_call-le : (n : ℕ) (ks : List ℕ) → least_call n ks ≤ n
least_call-le n [] = omega arith
least_call-le n (k ∷ ks) = omega (arith, least_call-le (min n k) ks)

-- nor than the number of a call that is to fail
pub least_call-failing : (c n : ℕ) (ks : List ℕ) → list_any (λ k. k == c) ks ≡ true → least_call n ks ≤ c
least_call-failing c n [] h = absurd cc
least_call-failing c n (k ∷ ks) h =
    elim (eqb_tells k c) [
      | inl p ↦ omega (arith, least_call-le (min n k) ks, p.1)
      | inr p ↦ least_call-failing c (min n k) ks (rw p.0 at h)
    ]

pub slice_get-take : {X : Type 0} (n k : ℕ) (xs : List X) → k < n → slice_get (take n xs) k ≡ slice_get xs k
slice_get-take zero k xs h = absurd (omega arith)
slice_get-take (suc n) k [] h = refl
slice_get-take (suc n) zero (x ∷ xs) h = refl
slice_get-take (suc n) (suc k) (x ∷ xs) h = slice_get-take n k xs (omega arith)

-- the bytes of a vector of the list, copied to the front of a buffer, are the string at its index
pub string_copied : (strings : List (List ℕ)) (list : List (Vec ℕ)) (fails : List ℕ) (cut k : ℕ) (v : Vec ℕ)
    (string copied rest : List ℕ) → strings_of list ≡ strings → cut ≡ least_call (length list) fails → k < cut
    → v ≡ slice_index_or list k v → string ≡ v.items → copied ≡ string
    → slice_get strings k ≡ Some (take (length string) (copied ++ rest))
string_copied strings list fails cut k v string copied rest told is below at bytes same =
    let within : k < length list = omega (arith, least_call-le (length list) fails) in
    let found : slice_get list k ≡ Some v = slice_get-get_or list k v within ∙ ap Some (sym at) in
    let front : take (length string) (copied ++ rest) ≡ v.items = rw same (take-append_seam string rest ∙ bytes) in
    rw (← told, slice_get-map, found, front) refl

-- one call more counts one more, and stays a plan of the same calls
called_or_raised-calls : (b : Bool) (f : Faults) → (called_or_raised b f).calls ≡ one_more f.calls
called_or_raised-calls true f = refl
called_or_raised-calls false f = refl

called_or_raised-fails : (b : Bool) (f : Faults) → (called_or_raised b f).fails ≡ f.fails
called_or_raised-fails true f = refl
called_or_raised-fails false f = refl

given_called : (s : Source) → source_given (source_called s) ≡ min (one_more s.faults.calls) (source_cut s)
given_called s =
    rw (called_or_raised-calls (is_failing s.faults) s.faults, called_or_raised-fails (is_failing s.faults) s.faults)
    refl

gave_all : (strings : List (List ℕ)) (cut calls : ℕ) → cut ≤ length strings → cut ≤ calls → cut < 2 ^ 64
    → GaveAll (take cut strings) (min calls cut) (min (one_more calls) cut)
gave_all strings cut calls within passed small = record {
  all = omega (arith, length-take-le cut strings within);
  kept = omega arith;
}

gives_string : (strings : List (List ℕ)) (cut calls : ℕ) (bytes : List ℕ) → calls < cut → cut < 2 ^ 64
    → slice_get strings calls ≡ Some bytes
    → GivesString (take cut strings) (min calls cut) (min (one_more calls) cut) bytes
gives_string strings cut calls bytes below small found =
    let is : min calls cut ≡ calls = omega arith in
    record {
      string = rw (is, slice_get-take cut calls strings below) found;
      one_more = omega arith;
    }

-- what it answers is what it gives
pub answers_give : (s now : Source) (buf : List ℕ) (r : Next) → now ≡ source_called s → SourceAnswers s buf r
    → source_cut s < 2 ^ 64 → NextGives (Some (source_gives s)) (source_given s) (source_given now) buf r
answers_give s now buf (next.Packet n) e a small =
    rw (e, given_called s) (gives_string s.strings (source_cut s) s.faults.calls (take n buf) a.below small a.string)
answers_give s now buf next.End e a small =
    rw (e, given_called s)
    (gave_all s.strings (source_cut s) s.faults.calls (least_call-le (length s.strings) s.faults.fails) a.1 small)
answers_give s now buf next.Failed e a small =
    rw (e, given_called s)
    (gave_all s.strings (source_cut s) s.faults.calls (least_call-le (length s.strings) s.faults.fails)
    (least_call-failing s.faults.calls (length s.strings) s.faults.fails a) small)

-- the string of the call's number stands at the front of the buffer
pub packet_answers : (s : Source) (list : List (Vec ℕ)) (faults : Faults) (at : Option (ℕ × Place)) (cut call : ℕ)
    (failing : Bool) (v : Vec ℕ) (string copied rest : List ℕ)
    → record { strings = strings_of list; faults = faults; at = at } ≡ s
    → cut ≡ least_call (length list) faults.fails → failing ≡ is_failing faults → failing ≡ false → call ≡ faults.calls
    → call < cut → v ≡ slice_index_or list call v → string ≡ v.items → copied ≡ string
    → Gives s (take (length string) (copied ++ rest))
packet_answers s list faults at cut call failing v string copied rest view is said works counts below item bytes same =
    let held : Source = record { strings = strings_of list; faults = faults; at = at } in
    let cut_is : cut ≡ source_cut held =
    is ∙ ap (λ n. least_call n faults.fails) (sym (length-map list (λ (v : Vec ℕ). v.items))) in
    let P : Source → Type 0 = λ s. Gives s (take (length string) (copied ++ rest)) in
    let found : slice_get (strings_of list) call ≡ Some (take (length string) (copied ++ rest)) =
    string_copied (strings_of list) list faults.fails cut call v string copied rest refl is below item bytes same in
    let given : P held = record {
      works = sym said ∙ works;
      below = omega arith;
      string = rw counts at found;
    } in
    subst P view given
