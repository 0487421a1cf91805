-- The first of a list that passes a test, found by calls of `next`, is the first of those that pass.
use Rattle.std.proofs.Common.{◌≡◌, Bool, true, false, cond, List, [], ◌∷◌, filter, Option, Some, None, IfSome, Bor, sym, ap, ◌∙◌}
use Rattle.std.specs.Fn.{CalledAt}
use Rattle.std.specs.Iterator.{Yields, YieldsFirst}
use Rattle.std.specs.List.{FoldsTo}
use denote.Param.Members.{Mut}

filter_hit : {X : Type 0} (test : X → Bool) (x : X) (s u : List X) → s ≡ x ∷ u → true ≡ test x
    → filter test s ≡ x ∷ filter test u
filter_hit test x s u e h =
    ap (λ xs. filter test xs) e ∙ ap (λ b. cond b (x ∷ filter test u) (filter test u)) (sym h)

filter_miss : {X : Type 0} (test : X → Bool) (x : X) (s u : List X) → s ≡ x ∷ u → false ≡ test x
    → filter test s ≡ filter test u
filter_miss test x s u e h =
    ap (λ xs. filter test xs) e ∙ ap (λ b. cond b (x ∷ filter test u) (filter test u)) (sym h)

moved : {X : Type 0} (r : Option X) (s t u : List X) → s ≡ t → YieldsFirst (λ l. l) t r u → YieldsFirst (λ l. l) s r u
moved None s t u e h = (e ∙ h.0, h.1)
moved (Some x) s t u e h = e ∙ h

module _ {X F : Type 0} (g : Mut F (Bor X × Unit {0}) Bool) (test : X → Bool)
    (says : (f : F) (x : X) (b : Bool) (q : F) → CalledAt g f x b q → b ≡ test x) where
  last : (s t u : List X) (r : Option X) (j : F) → s ≡ t → YieldsFirst (λ l. l) t r u
      → IfSome r (λ x. (h : F) × CalledAt g j x true h) → YieldsFirst (λ l. l) (filter test s) r (filter test u)
  last s t u None j e step hit =
      (ap (λ l. filter test l) (e ∙ step.0), ap (λ l. filter test l) step.1)
  last s t u (Some x) j e step hit =
      filter_hit test x s u (e ∙ step) (says j x true hit.0 hit.1)

  pub first_passing : (xs s t u : List X) (r : Option X) (f j : F) → Yields (YieldsFirst (λ l. l)) s xs t
      → YieldsFirst (λ l. l) t r u → FoldsTo (λ p x q. CalledAt g p x false q) f xs j
      → IfSome r (λ x. (h : F) × CalledAt g j x true h)
      → YieldsFirst (λ l. l) (filter test s) r (filter test u)
  first_passing [] s t u r f j passed step missed hit = last s t u r j passed step hit
  first_passing (y ∷ ys) s t u r f j passed step missed hit =
      let rest = first_passing ys passed.0 t u r missed.0 j passed.2 step missed.2 hit in
      let same = filter_miss test y s passed.0 passed.1 (says f y false missed.0 missed.1) in
      moved r (filter test s) (filter test passed.0) (filter test u) same rest
