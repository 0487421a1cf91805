-- Lists that are taken apart one by one, and receivers that are new.
use Rattle.std.proofs.Common.{◌≡◌, ℕ, suc, ◌+◌, ◌<◌, ◌≤◌, List, [], ◌∷◌, length, get_or, drop, None, refl, sym, ap, ◌∙◌}
use Rattle.std.proofs.Common.{subst, arith}
use Rattle.std.proofs.Math.Seq.{drop-cons}
use Rattle.std.proofs.lemmas.List.{get_or_default}
use Rattle.corr_model.specs.declared.plan.Plan.{Plan}
use Rattle.stream_feed.specs.Feeding.{FeedState}
use Rattle.slot_column.specs.Columns.{Hand}
use Rattle.corr_core.specs.New.{Built, IsNewFeed}
use Rattle.corr_threads.specs.Receivers.{ReceiverView}
use Rattle.corr_threads.proofs.ReceiverLemmas.{none_taken}
use Rattle.corr_parallel.specs.Seats.{IsNewReceiver}

-- what is left of a list after its first n
pub record Left {X : Type 0} (items rest : List X) (len n : ℕ) : Type 0 where
  pub is : rest ≡ drop n items
  pub counted : len + n ≡ length items

pub left_all : {X : Type 0} (items rest : List X) (len many : ℕ) → rest ≡ items → len ≡ many → many ≡ length items
    → Left items rest len 0
left_all items rest len many e c m = record { is = e; counted = let h = c in let k = m in omega (arith, h, k) }

-- one more was taken
pub left_next : {X : Type 0} (items rest after : List X) (x : X) (len later n : ℕ) → Left items rest len n
    → rest ≡ x ∷ after → later + 1 ≡ len → n < length items → (x ≡ get_or items n x) × Left items after later (n + 1)
left_next items rest after x len later n h e c low =
    let all : x ∷ after ≡ get_or items n x ∷ drop (suc n) items = sym e ∙ h.is ∙ drop-cons items n x low in
    let next : suc n ≡ n + 1 = omega arith in (
      let k = all in cc,
      record {
        is = (let k = all in cc) ∙ ap (λ m. drop m items) next;
        counted = let m = h.counted in omega (arith, m, c);
      },
    )

-- the receiver of a new feed
pub new_receiver : (plan : Plan) (antenna : ℕ) (f : FeedState) (hand : Hand) (v : ReceiverView)
    → IsNewFeed plan antenna f → v
    ≡ record { plan = plan; antenna = antenna; feed = f; hand = hand; placed = 0; held = None }
    → IsNewReceiver plan antenna v
new_receiver plan antenna f hand v is e =
    subst (IsNewReceiver plan antenna) (sym e)
    (record {
      same_plan = refl;
      same_antenna = refl;
      took_none = none_taken f is.stands;
      placed_none = refl;
      goes_on = is.goes_on;
    })

-- what is said of each element is said of the one that was taken
pub taken_new : {X : Type 0} (P : ℕ → X → Type 0) (count : ℕ) (items rest after : List X) (x : X) (len later n : ℕ)
    → Built P count items → Left items rest len n → rest ≡ x ∷ after → later + 1 ≡ len → n < count
    → P n x × Left items after later (n + 1)
taken_new P count items rest after x len later n each h e c low =
    let many = each.as_many in
    let k = left_next items rest after x len later n h e c (omega (arith, many, low)) in
    (subst (P n) (sym k.0) (each.each n x low), k.1)
