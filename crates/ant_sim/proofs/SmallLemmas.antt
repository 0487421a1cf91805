-- Each number of a block's packets is one of so many.
use Rattle.std.proofs.Common.{◌≡◌, ℕ, zero, suc, ◌+◌, ◌*◌, ◌<◌, ◌≤◌, Bool, true, false, nat_lt, ◌%◌, ◌==◌, if◌then◌else◌, List, [], ◌∷◌, length, take, drop, get_or, ◌≢◌, inl, inr, reverse, All, replicate, refl, sym, ap, subst, ◌∙◌, arith}
use Rattle.std.proofs.lemmas.List.Sorted.{All-permutation, IsPermutation-reverse}
use Rattle.std.proofs.lemmas.List.Elements.{All-cons, All-nil, All-append, All-replicate, All-get_or}
use Rattle.std.proofs.lemmas.Bool.{cases_lt}
use Rattle.std.proofs.lemmas.List.{drop_all, get_or-take, length-take, length-take-le}
use Rattle.std.proofs.Math.Nat.{mul-le-mul}
use Rattle.std.proofs.Math.Seq.{drop-cons}
use Rattle.rand_core.specs.Steps.{first_words}
use Rattle.rand_xoshiro.specs.SplitMix64.{mix_u64}
use Rattle.corr_model.specs.declared.plan.Plan.{Plan}
use Rattle.corr_model.specs.Plans.{Fits}
use Rattle.corr_model.specs.Lists.{numbers}
use Rattle.ant_sim.specs.Fates.{words, times, pieces_from, order}
use Rattle.ant_sim.specs.Simulated.{fate_key, heap_at}
use Rattle.ant_sim.specs.Blocks.{heap_count, pieces, block_order, block_pieces}
use Rattle.ant_sim.proofs.FateLemmas.{words_next, order_next}

pub length_words : (n seed : ℕ) → length (words seed n) ≡ n
unfolding first_words
length_words zero seed = refl
length_words (suc n) seed =
    ap length (words_next seed n (mix_u64 seed).0 (mix_u64 seed).1 refl) ∙ ap suc (length_words n (mix_u64 seed).1)

pieces_small : (k n : ℕ) (fates : List ℕ) → k + length fates ≤ n → All (λ m. m < n) (pieces_from k fates)
pieces_small k n [] h = All-nil (λ m. m < n)
pieces_small k n (fate ∷ fates) h =
    All-append (λ m. m < n) (replicate (times fate) k) (pieces_from (k + 1) fates)
    (All-replicate (λ m. m < n) (times fate) k (omega (arith, h))) (pieces_small (k + 1) n fates (omega (arith, h)))

turned_small : (n : ℕ) (ms : List ℕ) → All (λ m. m < n) ms → All (λ m. m < n) (reverse ms)
turned_small n ms h = All-permutation (λ m. m < n) ms (reverse ms) (IsPermutation-reverse ms) h

either_small : (n : ℕ) (ms : List ℕ) (b : Bool) → All (λ m. m < n) ms → All (λ m. m < n) (if b then reverse ms else ms)
either_small n ms true h = turned_small n ms h
either_small n ms false h = h

order_small : (seed n : ℕ) → All (λ m. m < n) (order seed n)
order_small seed n =
    subst (All (λ m. m < n))
    (sym (order_next seed n (mix_u64 seed).0 (mix_u64 seed).1 ((mix_u64 seed).0 % 8 == 0) refl refl))
    (either_small n (pieces_from 0 (words (mix_u64 seed).1 n)) ((mix_u64 seed).0 % 8 == 0)
    (pieces_small 0 n (words (mix_u64 seed).1 n) (omega (arith, length_words n (mix_u64 seed).1))))

numbers_small : (from n : ℕ) → All (λ m. m < from + n) (numbers from n)
numbers_small from zero = All-nil (λ m. m < from + 0)
numbers_small from (suc n) =
    All-cons (λ m. m < from + suc n) from (numbers (from + 1) n) (omega arith)
    (subst (λ e. All (λ m. m < e) (numbers (from + 1) n)) (let e : from + 1 + n ≡ from + suc n = omega arith in e)
    (numbers_small (from + 1) n))

block_by : (plan : Plan) (key : ℕ) (b : Bool)
    → All (λ m. m < (if b then pieces plan else 1)) (if b then order key (pieces plan) else 0 ∷ [])
block_by plan key true = order_small key (pieces plan)
block_by plan key false = All-cons (λ m. m < 1) 0 [] (omega arith) (All-nil (λ m. m < 1))

pub block_small : (plan : Plan) (seed antenna block : ℕ)
    → All (λ m. m < block_pieces plan block) (block_order plan seed antenna block)
block_small plan seed antenna zero =
    let n = block_pieces plan 0 in
    subst (λ k. All (λ m. m < k) (numbers 0 n)) (let e : 0 + n ≡ n = omega arith in e) (numbers_small 0 n)
block_small plan seed antenna (suc place) =
    block_by plan (fate_key seed antenna (heap_at seed antenna (heap_count plan) place))
    (nat_lt place (heap_count plan))

-- a number is left before the count
pub spot_before : (order : List ℕ) (count at : ℕ) → drop at (take count order) ≢ [] → at < count
spot_before order count at some =
    elim (cases_lt at count) [
      | inl less ↦ less
      | inr more ↦ absurd (some (drop_all at (take count order) (omega (arith, more, length-take count order))))
    ]

-- the number at the place is small
pub spot_small : (plan : Plan) (block : ℕ) (order : List ℕ) (count at m d : ℕ) → at < count → count ≤ length order
    → All (λ m. m < block_pieces plan block) (take count order) → m ≡ get_or order at d → m < block_pieces plan block
spot_small plan block order count at m d before within small is =
    subst (λ n. n < block_pieces plan block) (get_or-take count order at d before ∙ sym is)
    (All-get_or (λ m. m < block_pieces plan block) (take count order) at d
    (omega (arith, length-take-le count order within)) small)

-- there are not so many heaps that a next number would not fit
pub heaps_few : (plan : Plan) → Fits plan → heap_count plan ≤ 1048576 * 4096
heaps_few plan fits = mul-le-mul fits.ranges.shape.accumulations.most_met fits.ranges.shape.heaps.most_met

-- the numbers left are the first and those behind it
pub spot_split : (order : List ℕ) (count at m d : ℕ) → at < count → count ≤ length order → m ≡ get_or order at d
    → drop at (take count order) ≡ m ∷ drop (at + 1) (take count order)
spot_split order count at m d before within is =
    drop-cons (take count order) at d (omega (arith, length-take-le count order within))
    ∙ ap (λ x. x ∷ drop (suc at) (take count order)) (get_or-take count order at d before ∙ sym is)
    ∙ ap (λ j. m ∷ drop j (take count order)) (let e : suc at ≡ at + 1 = omega arith in e)
