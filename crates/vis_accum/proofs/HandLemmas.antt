-- What the tests rest on: the closed columns of two antennas, and how many sums a value shows.
use Rattle.std.proofs.Common.{◌≡◌, ℕ, zero, suc, ◌+◌, ◌<◌, true, pos, List, [], ◌∷◌, length, map, get_or, sym, ap₂, ◌∙◌, subst, arith, length-append}
use Rattle.std.proofs.lemmas.List.{length-map}
use Rattle.corr_model.specs.declared.plan.Plan.{Plan}
use Rattle.slot_column.specs.Columns.{Hand}
use Rattle.vis_shape.specs.Shapes.{Vis, IsVis, sums_of, cross_size}
use Rattle.vis_back.specs.Sets.{IsFor, IsFullSet}

abbrev two_of : Hand → Hand → List Hand
two_of x y = x ∷ y ∷ []

both_closed : (x y : Hand) → x.is_closed ≡ true → y.is_closed ≡ true → (a : ℕ) (d : Hand) → a < 2
    → (get_or (two_of x y) a d).is_closed ≡ true
both_closed x y h k zero d less = h
both_closed x y h k (suc zero) d less = k
both_closed x y h k (suc (suc a)) d less = absurd (omega arith)

both_for : (plan : Plan) (n : ℕ) (x y : Hand) → IsFor plan 0 n x → IsFor plan 1 n y → (a : ℕ) (d : Hand) → a < 2
    → IsFor plan a n (get_or (two_of x y) a d)
both_for plan n x y h k zero d less = h
both_for plan n x y h k (suc zero) d less = k
both_for plan n x y h k (suc (suc a)) d less = absurd (omega arith)

-- two closed columns of one number are those of a plan with two antennas
pub two_are_full : (plan : Plan) (n : ℕ) (x y : Hand) → plan.antennas ≡ 2 → x.is_closed ≡ true → y.is_closed ≡ true
    → x.column.plan ≡ plan → x.column.antenna ≡ 0 → x.column.number ≡ n
    → y.column.plan ≡ plan → y.column.antenna ≡ 1 → y.column.number ≡ n → IsFullSet plan (x ∷ y ∷ [])
two_are_full plan n x y two xc yc xp xa xn yp ya yn =
    let first : IsFor plan 0 n x = record { same_plan = xp; same_antenna = xa; same_number = xn } in
    let second : IsFor plan 1 n y = record { same_plan = yp; same_antenna = ya; same_number = yn } in
    record { number = n; as_many = sym two; closed = both_closed x y xc yc; each = both_for plan n x y first second }

-- a value shows as many sums as its plan asks
pub shown_size : (v w : Vis) → v ≡ w → IsVis v → length (sums_of w.values w.missing) ≡ cross_size w.plan
shown_size v w e h =
    let size : length (sums_of v.values v.missing) ≡ cross_size v.plan =
    length-append v.values (map pos v.missing) ∙ ap₂ (λ a b. a + b) h.as_many (length-map v.missing pos ∙ h.counts) in
    subst (λ u. length (sums_of u.values u.missing) ≡ cross_size u.plan) e size
