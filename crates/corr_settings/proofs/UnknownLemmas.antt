-- Of keys that ascend, the first that is no setting is the least.
use Rattle.std.proofs.Common.{◌≡◌, ℕ, Bool, true, false, not, cond, List, [], ◌∷◌, map, filter, Option, Some, None, String, Global, Less, string_bytes, inl, inr, refl, ap, sym, ◌∙◌}
use Rattle.std.proofs.lemmas.Bool.{cases_Bool}
use Rattle.std.specs.Ordering.{nat_cmp, is_lt}
use Rattle.std.specs.Cmp.Lexicographic.{slice_cmp}
use Rattle.std.specs.List.{AllByRecursion}
use Rattle.std.specs.List.Sorted.{IsStrictlySortedBy}
use Rattle.std.specs.String.{string_cmp}
use Rattle.corr_settings.specs.Values.{first_of, earlier, is_known, least_of}
use Rattle.corr_settings.specs.Unknown.{unknown_key}

-- those of some keys that are no settings
abbrev unknown : List (String Global) → List (List ℕ)
unknown keys = filter (λ name. not (is_known name)) (map string_bytes keys)

-- the key comes before the other one, if that is there
abbrev IsBefore : List ℕ → Option (List ℕ) → Type 0
IsBefore name None = Unit {0}
IsBefore name (Some other) = slice_cmp nat_cmp name other ≡ Less

-- before two keys, and so before the earlier one
before_both : (k name : List ℕ) (o : Option (List ℕ)) → slice_cmp nat_cmp k name ≡ Less → IsBefore k o
    → IsBefore k (earlier name o)
before_both k name None h more = h
before_both k name (Some other) h more =
    elim (cases_Bool (is_lt (slice_cmp nat_cmp name other))) [
      | inl is ↦ rw is h
      | inr not_so ↦ rw not_so more
    ]

-- a key before some keys comes before the least unknown one of them
before_least : (k : String Global) (keys : List (String Global)) → AllByRecursion (λ y. string_cmp k y ≡ Less) keys
    → IsBefore (string_bytes k) (least_of (unknown keys))
before_least k [] h = tt
before_least k (y ∷ ys) h =
    elim (cases_Bool (is_known (string_bytes y))) [
      | inl is ↦ rw is (before_least k ys h.1)
      | inr not_so ↦ rw not_so
          (before_both (string_bytes k) (string_bytes y) (least_of (unknown ys)) h.0 (before_least k ys h.1))
    ]

-- a key before another one, if that is there, is the earlier
is_earlier : (name : List ℕ) (o : Option (List ℕ)) → IsBefore name o → Some name ≡ earlier name o
is_earlier name None h = refl
is_earlier name (Some other) h = rw h refl

-- of keys that ascend, the first that is no setting is the least
pub first_is_least : (keys : List (String Global)) → IsStrictlySortedBy string_cmp keys
    → first_of unknown_key (map string_bytes keys) ≡ least_of (unknown keys)
unfolding IsStrictlySortedBy
first_is_least [] h = refl
first_is_least (k ∷ ks) h =
    elim (cases_Bool (is_known (string_bytes k))) [
      | inl is ↦ rw is (first_is_least ks h.1)
      | inr not_so ↦ rw not_so (is_earlier (string_bytes k) (least_of (unknown ks)) (before_least k ks h.0))
    ]
