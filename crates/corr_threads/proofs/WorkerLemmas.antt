-- The slots that a worker tries.
use Rattle.std.proofs.Common.{◌≡◌, ◌⊎◌, ℕ, ◌+◌, ◌-◌, ◌^◌, ◌<◌, ◌≤◌, min, length, get_or, slice_set, Option, Some, None, refl, sym}
use Rattle.std.proofs.Common.{ap, subst, ◌∙◌, inl, inr, arith}
use Rattle.std.proofs.lemmas.Bool.{cases_lt}
use Rattle.std.proofs.lemmas.List.{get_or-set_other, length-set}
use Rattle.std.proofs.lemmas.Grind.{get_or-set_at}
use Rattle.slot_ring.specs.declared.held.Held.{Held}
use Rattle.slot_ring.specs.Slots.{WorkView}
use Rattle.slot_ring.specs.Answers.{RefusesTake}
use Rattle.corr_threads.specs.Workers.{IsAfter, WorkerView, WorkerTurn, IsWorker, RefusesAt, RefusesEach, RefusesFrom, StayPast, PastAt, PastTo, EachPast}
use Rattle.corr_threads.specs.declared.turn.Turn.TheVariants as turns

-- one slot more showed a number past the last
pub past_more : (v : WorkerView) (n : ℕ) → PastTo v n → PastAt v n → PastTo v (n + 1)
past_more v n all past = λ s less. elim (cases_lt s n) [
  | inl below ↦ all s below
  | inr above ↦
      let at : n ≡ s = omega arith in
      subst (PastAt v) at past
]

-- where one slot did not, not each has
pub not_each_past : (v : WorkerView) (n : ℕ) → n < v.plan.slots → (PastAt v n → ⊥) → EachPast v → ⊥
not_each_past v n less not each = not (each n less)

-- the slot so many after this one, before the last or behind it
pub after_inside : (slots from count : ℕ) → from + count < slots → IsAfter slots from count (from + count)
after_inside slots from count less = record { inside = less; at = inl refl }

pub after_wrapped : (slots from count : ℕ) → slots ≤ from + count → from < slots → count ≤ slots
    → IsAfter slots from count (from + count - slots)
after_wrapped slots from count past less few = record { inside = omega arith; at = inr (omega arith) }

-- slots that come differently many after one are not the same
slots_apart : (slots from i j s m : ℕ) → IsAfter slots from i s → IsAfter slots from j m → i < j → j < slots → m ≡ s → ⊥
slots_apart slots from i j s m first second less few same =
    let inside = second.inside in
    elim first.at [
      | inl x ↦ elim second.at [ inl y ↦ omega arith | inr y ↦ omega arith ]
      | inr x ↦ elim second.at [ inl y ↦ omega arith | inr y ↦ omega arith ]
    ]

-- and those that come equally many are
slots_same : (slots from i s m : ℕ) → IsAfter slots from i s → IsAfter slots from i m → s ≡ m
slots_same slots from i s m first second =
    let low = first.inside in
    let inside = second.inside in
    elim first.at [
      | inl x ↦ elim second.at [ inl y ↦ omega arith | inr y ↦ absurd (omega arith) ]
      | inr x ↦ elim second.at [ inl y ↦ absurd (omega arith) | inr y ↦ omega arith ]
    ]

-- how many after one a slot comes
record Reaches (slots from slot : ℕ) : Type 0 where
  steps : ℕ
  less : steps < slots
  is_after : IsAfter slots from steps slot

reaches : (slots from s : ℕ) → from < slots → s < slots → Reaches slots from s
reaches slots from s begins less = elim (cases_lt s from) [
  | inl below ↦
      record {
        steps = s + slots - from;
        less = omega arith;
        is_after = record { inside = less; at = inr (omega arith) };
      }
  | inr above ↦
      record { steps = s - from; less = omega arith; is_after = record { inside = less; at = inl (omega arith) } }
]

-- what a worker has after some slots refused
pub record Tries (old now : WorkerView) (work : WorkView) (count : ℕ) : Type 0 where
  pub same_plan : now.plan ≡ old.plan
  pub same_number : now.number ≡ old.number
  pub same_first : now.first ≡ old.first
  pub same_computed : now.computed ≡ old.computed
  pub kept : IsWorker now work
  pub refuses : RefusesFrom now old.first count
  pub others : StayPast old now old.first count

-- before the first
pub tries_none : (v : WorkerView) (work : WorkView) → IsWorker v work → Tries v v work 0
tries_none v work is = record {
  same_plan = refl;
  same_number = refl;
  same_first = refl;
  same_computed = refl;
  kept = is;
  refuses = λ i s less after. absurd (omega arith);
  others = λ i s least less after. refl;
}

-- the view in which the slot showed this
abbrev pub with_held : WorkerView → ℕ → Held → WorkerView
with_held v n h = record v { held = slice_set v.held n (Some h) }

refuses_more : (v : WorkerView) (from n slot : ℕ) (h : Held) → n < v.plan.slots → slot < length v.held
    → IsAfter v.plan.slots from n slot → RefusesFrom v from n → RefusesTake h v.plan
    → RefusesFrom (with_held v slot h) from (n + 1)
refuses_more v from n slot h few inside at all refuses = λ i s less after. elim (cases_lt i n) [
  | inl below ↦
      let r = all i s below after in
      record {
        shown = r.shown;
        is_held = get_or-set_other v.held slot s (Some h) None
            (λ e. slots_apart v.plan.slots from i n s slot after at below few (sym e))
            ∙ r.is_held;
        refuses = r.refuses;
      }
  | inr above ↦
      let same : i ≡ n = omega arith in
      let here : s ≡ slot =
      slots_same v.plan.slots from n s slot (subst (λ k. IsAfter v.plan.slots from k s) same after) at in
      record { shown = h; is_held = get_or-set_at v.held slot s (Some h) None here inside; refuses = refuses }
]

-- one slot more refused
pub tries_more : (old v : WorkerView) (work now : WorkView) (n slot : ℕ) (h : Held) → Tries old v work n
    → n < v.plan.slots → IsAfter v.plan.slots v.first n slot → RefusesTake h work.plan → now ≡ work
    → Tries old (with_held v slot h) now (n + 1)
tries_more old v work now n slot h tries less after refuses same =
    let at : IsAfter v.plan.slots old.first n slot =
    subst (λ k. IsAfter v.plan.slots k n slot) tries.same_first after in
    let inside : slot < length v.held = subst (λ k. slot < k) (sym tries.kept.each_slot) after.inside in
    let free : IsWorker v now = subst (IsWorker v) (sym same) tries.kept in
    record {
      same_plan = tries.same_plan;
      same_number = tries.same_number;
      same_first = tries.same_first;
      same_computed = tries.same_computed;
      kept = record {
        fits = free.fits;
        same_plan = free.same_plan;
        free = free.free;
        first_inside = free.first_inside;
        each_slot = length-set v.held slot (Some h) ∙ free.each_slot;
      };
      refuses = refuses_more v old.first n slot h less inside at tries.refuses
          (subst (RefusesTake h) tries.kept.same_plan refuses);
      others = λ i s least few later.
          get_or-set_other v.held slot s (Some h) None
          (slots_apart v.plan.slots old.first n i slot s at later (omega arith) few)
          ∙ tries.others i s (omega arith) few later;
    }

-- all slots refused
pub refuses_each : (old v : WorkerView) (work : WorkView) (count : ℕ) → Tries old v work count → v.plan.slots ≤ count
    → RefusesEach v
refuses_each old v work count tries all = λ s less.
    let from : old.first < v.plan.slots = subst (λ k. k < v.plan.slots) tries.same_first tries.kept.first_inside in
    let r = reaches v.plan.slots old.first s from less in
    let few = r.less in
    tries.refuses r.steps s (omega arith) r.is_after

-- what refused still does when the count and the first slot are others
same_refusal : (v : WorkerView) (slot count next : ℕ) → RefusesAt v slot
    → RefusesAt (record v { first = next; computed = count }) slot
same_refusal v slot count next r = record { shown = r.shown; is_held = r.is_held; refuses = r.refuses }

-- a work of the next slot was computed
pub turn_computes : (old v : WorkerView) (work : WorkView) (n slot count next : ℕ) → Tries old v work n
    → n < v.plan.slots → IsAfter v.plan.slots v.first n slot → IsAfter v.plan.slots slot 1 next
    → count ≡ min (v.computed + 1) (2 ^ 64 - 1)
    → WorkerTurn old turns.Moved (record v { first = next; computed = count })
turn_computes old v work n slot count next tries less after then more = record {
  same_plan = tries.same_plan;
  same_number = tries.same_number;
  cause = record {
    one_more = more ∙ ap (λ k. min (k + 1) (2 ^ 64 - 1)) tries.same_computed;
    tried = n;
    slot = slot;
    is_left = less;
    is_slot = subst (λ k. IsAfter v.plan.slots k n slot) tries.same_first after;
    refuses = λ i s low at. same_refusal v s count next (tries.refuses i s low at);
    others = tries.others;
    next = then;
  };
  rests = tt;
}

-- all slots refused, and each has a number past the last
pub turn_ends : (old v : WorkerView) (work : WorkView) (n : ℕ) → Tries old v work n → v.plan.slots ≤ n → EachPast v
    → WorkerTurn old turns.Done v
turn_ends old v work n tries all past = record {
  same_plan = tries.same_plan;
  same_number = tries.same_number;
  cause = record { refuses = refuses_each old v work n tries all; past = past };
  rests = record { same_computed = tries.same_computed; same_first = tries.same_first };
}

-- all slots refused, and not each has
pub turn_waits : (old v : WorkerView) (work : WorkView) (n : ℕ) → Tries old v work n → v.plan.slots ≤ n
    → (EachPast v → ⊥) → WorkerTurn old turns.Waits v
turn_waits old v work n tries all not_past = record {
  same_plan = tries.same_plan;
  same_number = tries.same_number;
  cause = record { refuses = refuses_each old v work n tries all; not_past = not_past };
  rests = record { same_computed = tries.same_computed; same_first = tries.same_first };
}
