-- Parts of an accumulation that are added up in any order, for any value of ranges that is its parts, added up.
use Rattle.std.proofs.Common.{◌≡◌, ℕ, zero, suc, ◌+◌, ◌-◌, ◌<◌, ◌≤◌, ℤ, pos, ◌+ℤ◌, Bool, true, false, ◌&&◌, nat_le, nat_lt, cond, List, [], ◌∷◌, ◌++◌, length, count_by, All, refl, sym, ap, ap₂, ◌∙◌, subst, arith}
use Rattle.std.proofs.lemmas.Int.{ints}
use Rattle.std.proofs.lemmas.List.Elements.{All-head, All-tail}
use Rattle.std.proofs.lemmas.List.Sums.{sum_by-cons}
use Rattle.corr_model.specs.declared.plan.Plan.{Plan}
use Rattle.vis_shape.specs.Sums.{add_sums, zeros, Sums, no_sums, with_sums}
use Rattle.vis_shape.proofs.AddLemmas.{length-add_sums, add_sums-assoc, add_sums-comm}
use Rattle.vis_back.specs.Parts.{Part, is_in, MakeUp, Making, parts_of, made_so}
use Rattle.vis_back.specs.Parts.Making.{Cleared, Added, Merged}

-- what is asked of a value of ranges
pub record IsAdditive (size : ℕ) (value : ℕ → ℕ → List ℤ) : Type 0 where
  pub sized : (from to : ℕ) → length (value from to) ≡ size
  pub splits : (from mid to : ℕ) → from ≤ mid → mid ≤ to → value from to ≡ add_sums (value from mid) (value mid to)
  pub starts : (from : ℕ) → value from from ≡ zeros size

-- ---- nothing, and sums of sums

length-zeros : (n : ℕ) → length (zeros n) ≡ n
length-zeros zero = refl
length-zeros (suc n) = ap suc (length-zeros n)

zeros-first : (n : ℕ) (xs : List ℤ) → length xs ≡ n → add_sums (zeros n) xs ≡ xs
zeros-first zero [] e = refl
zeros-first zero (x ∷ xs) e = absurd (omega arith)
zeros-first (suc n) [] e = absurd (omega arith)
zeros-first (suc n) (x ∷ xs) e =
    let same : pos 0 +ℤ x ≡ x = omega (arith, ints) in ap₂ (λ u us. u ∷ us) same (zeros-first n xs (omega arith))

zeros-last : (n : ℕ) (xs : List ℤ) → length xs ≡ n → add_sums xs (zeros n) ≡ xs
zeros-last n xs e = add_sums-comm xs (zeros n) ∙ zeros-first n xs e

-- two sums of two, the middle ones exchanged
exchanged : (a b c d : List ℤ) → add_sums (add_sums a b) (add_sums c d) ≡ add_sums (add_sums a c) (add_sums b d)
exchanged a b c d =
    add_sums-assoc a b (add_sums c d) ∙ ap (add_sums a)
    (sym (add_sums-assoc b c d) ∙ ap (λ z. add_sums z d) (add_sums-comm b c) ∙ add_sums-assoc c b d)
    ∙ sym (add_sums-assoc a c (add_sums b d))

-- ---- sums over the first timestamps

-- what f says of the timestamps below n, added up
abbrev sum_to : ℕ → (ℕ → List ℤ) → ℕ → List ℤ
sum_to size f zero = zeros size
sum_to size f (suc n) = add_sums (sum_to size f n) (f n)

sum_to-same : (size : ℕ) (f g : ℕ → List ℤ) (n : ℕ) → ((t : ℕ) → t < n → f t ≡ g t) → sum_to size f n ≡ sum_to size g n
sum_to-same size f g zero each = refl
sum_to-same size f g (suc n) each =
    ap₂ add_sums (sum_to-same size f g n (λ t h. each t (omega arith))) (each n (omega arith))

sum_to-nothing : (size n : ℕ) → sum_to size (λ t. zeros size) n ≡ zeros size
sum_to-nothing size zero = refl
sum_to-nothing size (suc n) =
    ap (λ z. add_sums z (zeros size)) (sum_to-nothing size n) ∙ zeros-first size (zeros size) (length-zeros size)

sum_to-both : (size : ℕ) (f g : ℕ → List ℤ) (n : ℕ)
    → sum_to size (λ t. add_sums (f t) (g t)) n ≡ add_sums (sum_to size f n) (sum_to size g n)
sum_to-both size f g zero = sym (zeros-first size (zeros size) (length-zeros size))
sum_to-both size f g (suc n) =
    ap (λ z. add_sums z (add_sums (f n) (g n))) (sum_to-both size f g n) ∙ exchanged (sum_to size f n)
    (sum_to size g n) (f n) (g n)

-- ---- one part, timestamp by timestamp

-- what a timestamp brings where it counts so often
abbrev copies : ℕ → ℕ → List ℤ → List ℤ
copies size zero v = zeros size
copies size (suc n) v = add_sums v (copies size n v)

abbrev once_in : (size : ℕ) (value : ℕ → ℕ → List ℤ) (part : Part) (t : ℕ) → List ℤ
once_in size value part t = copies size (cond (is_in t part) 1 0) (value t (t + 1))

abbrev one_if : Bool → ℕ
one_if b = cond b 1 0

inside : (from to t : ℕ) → from ≤ t → t < to → one_if (nat_le from t && nat_lt t to) ≡ 1
inside from to t h k = grind arith

outside_before : (from to t : ℕ) → t < from → one_if (nat_le from t && nat_lt t to) ≡ 0
outside_before from to t h = grind arith

outside_behind : (from to t : ℕ) → to ≤ t → one_if (nat_le from t && nat_lt t to) ≡ 0
outside_behind from to t h = grind arith

one_copy : (size : ℕ) (v : List ℤ) → length v ≡ size → copies size 1 v ≡ v
one_copy size v e = zeros-last size v e

part_before : (size : ℕ) (value : ℕ → ℕ → List ℤ) (part : Part) (n : ℕ) → n ≤ part.from
    → sum_to size (once_in size value part) n ≡ zeros size
part_before size value part n h =
    sum_to-same size (once_in size value part) (λ t. zeros size) n
    (λ t k. ap (λ c. copies size c (value t (t + 1))) (outside_before part.from part.to t (omega arith)))
    ∙ sum_to-nothing size n

part_within : (size : ℕ) (value : ℕ → ℕ → List ℤ) (part : Part) (n k : ℕ) → IsAdditive size value → n ≡ part.from + k
    → n ≤ part.to → sum_to size (once_in size value part) n ≡ value part.from n
part_within size value part n zero h e le =
    let same : part.from ≡ n = omega arith in
    part_before size value part n (omega arith) ∙ sym (h.starts part.from) ∙ ap (value part.from) same
part_within size value part zero (suc k) h e le = absurd (omega arith)
part_within size value part (suc n) (suc k) h e le =
    let next : n + 1 ≡ suc n = omega arith in
    ap₂ add_sums (part_within size value part n k h (omega arith) (omega arith))
    (ap (λ c. copies size c (value n (n + 1))) (inside part.from part.to n (omega arith) (omega arith)) ∙ one_copy size
    (value n (n + 1)) (h.sized n (n + 1)) ∙ ap (value n) next)
    ∙ sym (h.splits part.from n (suc n) (omega arith) (omega arith))

part_whole : (size : ℕ) (value : ℕ → ℕ → List ℤ) (part : Part) (n k : ℕ) → IsAdditive size value → part.from ≤ part.to
    → n ≡ part.to + k → sum_to size (once_in size value part) n ≡ value part.from part.to
part_whole size value part n zero h o e =
    let same : n ≡ part.to = omega arith in
    part_within size value part n (n - part.from) h (omega arith) (omega arith) ∙ ap (value part.from) same
part_whole size value part zero (suc k) h o e = absurd (omega arith)
part_whole size value part (suc n) (suc k) h o e =
    ap₂ add_sums (part_whole size value part n k h o (omega arith))
    (ap (λ c. copies size c (value n (n + 1))) (outside_behind part.from part.to n (omega arith)))
    ∙ zeros-last size (value part.from part.to) (h.sized part.from part.to)

-- ---- all parts

-- the values of the parts, added up
abbrev pub total_of : ℕ → (ℕ → ℕ → List ℤ) → List Part → List ℤ
total_of size value [] = zeros size
total_of size value (part ∷ parts) = add_sums (value part.from part.to) (total_of size value parts)

length-total : (size : ℕ) (value : ℕ → ℕ → List ℤ) (parts : List Part) → IsAdditive size value
    → length (total_of size value parts) ≡ size
length-total size value [] h = length-zeros size
length-total size value (part ∷ parts) h =
    length-add_sums (value part.from part.to) (total_of size value parts)
    (h.sized part.from part.to ∙ sym (length-total size value parts h)) ∙ h.sized part.from part.to

-- a timestamp counts in a part and in the rest
counts_add : (size : ℕ) (v : List ℤ) (b : Bool) (c : ℕ) → length v ≡ size → length (copies size c v) ≡ size
    → add_sums (copies size (cond b 1 0) v) (copies size c v) ≡ copies size (cond b 1 0 + c) v
counts_add size v true c e l =
    let next : suc c ≡ 1 + c = omega arith in
    ap (λ z. add_sums z (copies size c v)) (one_copy size v e) ∙ ap (λ k. copies size k v) next
counts_add size v false c e l =
    let same : c ≡ 0 + c = omega arith in zeros-first size (copies size c v) l ∙ ap (λ k. copies size k v) same

length-copies : (size n : ℕ) (v : List ℤ) → length v ≡ size → length (copies size n v) ≡ size
length-copies size zero v e = length-zeros size
length-copies size (suc n) v e = length-add_sums v (copies size n v) (e ∙ sym (length-copies size n v e)) ∙ e

total_is : (size : ℕ) (value : ℕ → ℕ → List ℤ) (n : ℕ) (parts : List Part) → IsAdditive size value
    → All (λ part. part.from ≤ part.to) parts → All (λ part. part.to ≤ n) parts
    → total_of size value parts ≡ sum_to size (λ t. copies size (count_by (is_in t) parts) (value t (t + 1))) n
total_is size value n [] h o w = sym (sum_to-nothing size n)
total_is size value n (part ∷ parts) h o w =
    let ordered = All-head (λ p. p.from ≤ p.to) part parts o in
    let within = All-head (λ p. p.to ≤ n) part parts w in
    let rest = total_is size value n parts h (All-tail (λ p. p.from ≤ p.to) part parts o)
    (All-tail (λ p. p.to ≤ n) part parts w) in
    let first = part_whole size value part n (n - part.to) h ordered (omega arith) in
    ap₂ add_sums (sym first) rest
    ∙ sym (sum_to-both size (once_in size value part) (λ t. copies size (count_by (is_in t) parts) (value t (t + 1))) n)
    ∙ sum_to-same size (λ t.
    add_sums (once_in size value part t) (copies size (count_by (is_in t) parts) (value t (t + 1))))
    (λ t. copies size (count_by (is_in t) (part ∷ parts)) (value t (t + 1))) n
    (λ t k. counts_add size (value t (t + 1)) (is_in t part) (count_by (is_in t) parts) (h.sized t (t + 1))
    (length-copies size (count_by (is_in t) parts) (value t (t + 1)) (h.sized t (t + 1)))
    ∙ ap (λ c. copies size c (value t (t + 1))) (sym (sum_by-cons (λ p. one_if (is_in t p)) part parts)))

each_once : (size : ℕ) (value : ℕ → ℕ → List ℤ) (n : ℕ) → IsAdditive size value
    → sum_to size (λ t. value t (t + 1)) n ≡ value 0 n
each_once size value zero h = sym (h.starts 0)
each_once size value (suc n) h =
    let next : n + 1 ≡ suc n = omega arith in
    ap₂ add_sums (each_once size value n h) (ap (value n) next) ∙ sym (h.splits 0 n (suc n) (omega arith) (omega arith))

-- disjoint parts that make up a range from 0 on, in any order
pub total_whole : (size : ℕ) (value : ℕ → ℕ → List ℤ) (total : ℕ) (parts : List Part) → IsAdditive size value
    → MakeUp parts total → total_of size value parts ≡ value 0 total
total_whole size value total parts h m =
    total_is size value total parts h m.ordered m.within
    ∙ sum_to-same size (λ t. copies size (count_by (is_in t) parts) (value t (t + 1))) (λ t. value t (t + 1)) total
    (λ t k. ap (λ c. copies size c (value t (t + 1))) (m.once t k) ∙ one_copy size (value t (t + 1))
    (h.sized t (t + 1)))
    ∙ each_once size value total h

-- ---- the number of timestamps, as one more sum

abbrev counted : (ℕ → ℕ → List ℤ) → ℕ → ℕ → List ℤ
counted value from to = pos (to - from) ∷ value from to

counted_is : (size : ℕ) (value : ℕ → ℕ → List ℤ) → IsAdditive size value → IsAdditive (suc size) (counted value)
counted_is size value h = record {
  sized = λ from to. ap suc (h.sized from to);
  splits = λ from mid to p q.
      let same : pos (to - from) ≡ pos (mid - from) +ℤ pos (to - mid) = omega (arith, ints) in
      ap₂ (λ u us. u ∷ us) same (h.splits from mid to p q);
  starts = λ from. let none : pos (from - from) ≡ pos 0 =
      omega (arith, ints) in ap₂ (λ u us. u ∷ us) none (h.starts from);
}

-- how many timestamps the parts have
abbrev many : List Part → ℕ
many [] = 0
many (part ∷ parts) = (part.to - part.from) + many parts

counted_total : (size : ℕ) (value : ℕ → ℕ → List ℤ) (parts : List Part)
    → total_of (suc size) (counted value) parts ≡ pos (many parts) ∷ total_of size value parts
counted_total size value [] = refl
counted_total size value (part ∷ parts) =
    let sum : pos (part.to - part.from) +ℤ pos (many parts) ≡ pos ((part.to - part.from) + many parts) =
    omega (arith, ints) in
    ap (add_sums (counted value part.from part.to)) (counted_total size value parts) ∙ ap
    (λ z. z ∷ add_sums (value part.from part.to) (total_of size value parts)) sum

heads : (a b : ℤ) (xs ys : List ℤ) → (a ∷ xs) ≡ (b ∷ ys) → a ≡ b
heads a b xs ys e = cc

tails : (a b : ℤ) (xs ys : List ℤ) → (a ∷ xs) ≡ (b ∷ ys) → xs ≡ ys
tails a b xs ys e = cc

-- ---- values that were made of parts

total_both : (size : ℕ) (value : ℕ → ℕ → List ℤ) (parts more : List Part) → IsAdditive size value
    → total_of size value (parts ++ more) ≡ add_sums (total_of size value parts) (total_of size value more)
total_both size value [] more h = sym (zeros-first size (total_of size value more) (length-total size value more h))
total_both size value (part ∷ parts) more h =
    ap (add_sums (value part.from part.to)) (total_both size value parts more h) ∙ sym
    (add_sums-assoc (value part.from part.to) (total_of size value parts) (total_of size value more))

many_both : (parts more : List Part) → many (parts ++ more) ≡ many parts + many more
many_both [] more = omega arith
many_both (part ∷ parts) more = let rest = many_both parts more in omega (arith, rest)

abbrev in_all : Plan → ℕ → (ℕ → ℕ → List ℤ) → List Part → Sums
in_all plan size value parts = record { plan = plan; sums = total_of size value parts; added = many parts }

-- it shows the total of its parts
pub made_is : (plan : Plan) (size : ℕ) (value : ℕ → ℕ → List ℤ) (m : Making) → IsAdditive size value
    → made_so plan size value m ≡ in_all plan size value (parts_of m)
made_is plan size value Cleared h = refl
made_is plan size value (Added before part) h =
    let sum : many (parts_of before) + (part.to - part.from) ≡ (part.to - part.from) + many (parts_of before) =
    omega arith in
    ap (λ s. with_sums s (value part.from part.to) (part.to - part.from)) (made_is plan size value before h)
    ∙ ap₂ (λ s k. record { plan = plan; sums = s; added = k })
    (add_sums-comm (total_of size value (parts_of before)) (value part.from part.to)) sum
made_is plan size value (Merged before other) h =
    ap₂ (λ s r. with_sums s r.sums r.added) (made_is plan size value before h) (made_is plan size value other h)
    ∙ ap₂ (λ s k. record { plan = plan; sums = s; added = k })
    (sym (total_both size value (parts_of before) (parts_of other) h))
    (sym (many_both (parts_of before) (parts_of other)))

-- disjoint parts that make up a whole, added to a cleared value or merged, in any order, make the whole's value
pub made_whole : (plan : Plan) (size : ℕ) (value : ℕ → ℕ → List ℤ) (total : ℕ) (m : Making) → IsAdditive size value
    → MakeUp (parts_of m) total
    → made_so plan size value m ≡ record { plan = plan; sums = value 0 total; added = total }
made_whole plan size value total m h up =
    let parts = parts_of m in
    let both : pos (many parts) ∷ total_of size value parts ≡ pos (total - 0) ∷ value 0 total =
    sym (counted_total size value parts) ∙ total_whole (suc size) (counted value) total parts
    (counted_is size value h) up in
    let one = heads (pos (many parts)) (pos (total - 0)) (total_of size value parts) (value 0 total) both in
    let count : many parts ≡ total = omega (arith, ints, one) in
    made_is plan size value m h
    ∙ ap₂ (λ s k. record { plan = plan; sums = s; added = k })
    (tails (pos (many parts)) (pos (total - 0)) (total_of size value parts) (value 0 total) both) count
