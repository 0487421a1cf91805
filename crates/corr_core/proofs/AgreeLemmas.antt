-- A string more changes no column that was put, so what the parts hold stays what it stands for.
use Rattle.std.proofs.Common.{◌≡◌, ℕ, zero, suc, ◌+◌, ◌<◌, ◌%◌, true, false, ltb, eqb, List, [], ◌∷◌, ◌++◌, length, map, get_or, Option, Some, None, refl, sym, ap, ◌∙◌, subst, arith}
use Rattle.std.proofs.lemmas.List.{get_or-map}
use Rattle.std.proofs.lemmas.Nat.{mod_below}
use Rattle.std.proofs.lemmas.Bool.{ltb-true, eqb-true, and_parts}
use Rattle.std.proofs.Math.Path.{fun_ext}
use Rattle.corr_model.specs.declared.plan.Plan.{Plan}
use Rattle.corr_model.specs.Lists.{numbers}
use Rattle.corr_model.specs.Streams.{column, floor}
use Rattle.corr_model.proofs.StreamLawsFloor.{closed_columns_stay}
use Rattle.slot_column.specs.Columns.{Hand}
use Rattle.slot_ring.specs.Slots.{View, WorkView}
use Rattle.corr_machine.specs.Machines.{State, Packet, work_count, stream_at, slot_at, slot_for, work_at, stream_floor, stands_in, is_filling, is_working, is_ready, with_string, enabled, effect, IsProper}
use Rattle.corr_machine.specs.Runs.{strings_of}
use Rattle.corr_machine.proofs.Proper.{ready_parts, each_stream, full_put, work_has_slot, not_filling}
use Rattle.corr_core.specs.Standing.{Value, Values, values_of, kind_of, SlotStandsFor, HasNumber, WorkStandsFor}

-- values that agree on the closed columns
pub record Agree (plan : Plan) (state : State) (v w : Values) : Type 0 where
  pub columns : (a n : ℕ) → a < plan.antennas → n < stream_floor plan a (stream_at state a)
      → v.column a n ≡ w.column a n
  pub results : (n : ℕ) → ((a : ℕ) → a < plan.antennas → n < stream_floor plan a (stream_at state a))
      → v.result n ≡ w.result n

pub map_numbers : {A : Type 0} (f g : ℕ → A) (from n : ℕ) → ((i : ℕ) → i < from + n → f i ≡ g i)
    → map f (numbers from n) ≡ map g (numbers from n)
map_numbers f g from zero same = refl
map_numbers f g from (suc n) same =
    ap (λ x. x ∷ map f (numbers (from + 1) n)) (same from (omega arith)) ∙ ap (λ xs. g from ∷ xs)
    (map_numbers f g (from + 1) n (λ i low. same i (omega arith)))

-- a string more changes no column that was put
pub packet_agrees : (value : Value) (plan : Plan) (state : State) (a : ℕ) (b : List ℕ) → IsProper plan state
    → enabled plan state (Packet a b) ≡ true
    → Agree plan state (values_of value plan (strings_of state))
    (values_of value plan (strings_of (effect plan state (Packet a b))))
packet_agrees value plan state a b h on =
    let x = stream_at state a in
    let parts = and_parts (ltb a plan.antennas) (is_ready plan a x) on in
    let few = ltb-true a plan.antennas parts.0 in
    let is_open = ready_parts plan a x parts.1 in
    let after = effect plan state (Packet a b) in
    let same : (c n : ℕ) → c < plan.antennas → n < stream_floor plan c (stream_at state c)
    → column plan c (strings_of state c) n ≡ column plan c (strings_of after c) n =
    λ c n low put. each_stream state a (with_string plan b x)
    (λ d y. d ≡ c → column plan c (stream_at state c).strings n ≡ column plan c y.strings n)
    (omega (arith, few, h.stream_count))
    (λ e. subst (λ d. n < stream_floor plan d (stream_at state d)
    → column plan d (stream_at state d).strings n ≡ column plan d (x.strings ++ b ∷ []) n) e
    (λ put'. sym (closed_columns_stay plan a x.strings (b ∷ []) n
    (subst (λ o. n < floor plan a x.strings o) is_open.not_ended put'))) put)
    (λ d ne e. ap (λ k. column plan c (stream_at state k).strings n) (sym e)) c refl in
    record {
      columns = same;
      results = λ n all. ap value
          (map_numbers (λ c. column plan c (strings_of state c) n) (λ c. column plan c (strings_of after c) n)
          0 plan.antennas
          (λ c low. let few' : c < plan.antennas = omega (arith, low) in same c n few' (all c few')));
    }

-- a slot stands for the same where values agree
pub slot_agrees : (plan : Plan) (state : State) (v w : Values) (i : ℕ) (s : View) → IsProper plan state
    → Agree plan state v w → i < plan.slots
    → SlotStandsFor plan v s (slot_at state i) → SlotStandsFor plan w s (slot_at state i)
slot_agrees plan state v w i s h agree low stood =
    let x = slot_at state i in
    record {
      plan_is = stood.plan_is;
      count = stood.count;
      number = stood.number;
      kind = stood.kind;
      marks = stood.marks;
      cells = λ e a d there closed.
          let few : a < plan.antennas = omega (arith, there, stood.count) in
          let stands : stands_in x a ≡ true =
          ap (λ bs. get_or bs a false) (stood.marks e) ∙ get_or-map (λ (c : Hand). c.is_closed) s.columns a d false
          there ∙ closed in
          let put = ltb-true x.number (stream_at state a).put (sym (h.stands i a low few) ∙ stands) in
          stood.cells e a d there closed ∙ agree.columns a s.number few
          (omega (arith, put, stood.number, (h.stream a few).closed));
      result = λ e.
          let full = (h.slot i low).full (ap is_filling (sym stood.kind) ∙ ap (λ k. is_filling (kind_of k)) e) in
          stood.result e ∙ agree.results s.number
          (λ a few. let put = full_put plan state i a h low few full in omega
          (arith, put, stood.number, (h.stream a few).closed));
    }

pub number_agrees : (plan : Plan) (state : State) (v w : Values) (s : WorkView) (o : Option ℕ)
    → length s.columns ≡ plan.antennas → Agree plan state v w
    → ((n : ℕ) → o ≡ Some n → (a : ℕ) → a < plan.antennas → n < stream_floor plan a (stream_at state a))
    → HasNumber v s o → HasNumber w s o
number_agrees plan state v w s None count agree put stood = stood
number_agrees plan state v w s (Some n) count agree put stood = (
  stood.0,
  stood.1,
  (λ a d there closed. let few : a < plan.antennas =
      omega (arith, there, count) in stood.2 a d there closed ∙ agree.columns a n few (put n refl a few)),
  stood.3 ∙
      agree.results n (put n refl),
)

-- and so does a work
pub work_agrees : (plan : Plan) (state : State) (v w : Values) (i : ℕ) (s : WorkView) → 0 < plan.slots
    → IsProper plan state → Agree plan state v w → i < work_count plan
    → WorkStandsFor plan v s (work_at state i) → WorkStandsFor plan w s (work_at state i)
work_agrees plan state v w i s some h agree low stood = record {
  plan_is = stood.plan_is;
  count = stood.count;
  number = number_agrees plan state v w s (work_at state i) stood.count agree
      (λ n e a few.
      let on = and_parts (eqb (slot_for plan state n).number n) (is_working (slot_for plan state n).kind)
      (work_has_slot plan state i n h low e) in
      let place = mod_below n plan.slots some in
      let full = (h.slot (n % plan.slots) place).full (not_filling (slot_for plan state n).kind on.1) in
      let put = full_put plan state (n % plan.slots) a h place few full in
      omega (arith, put, eqb-true (slot_for plan state n).number n on.0, (h.stream a few).closed))
      stood.number;
}

-- the same strings have the same values
pub values_same : (value : Value) (plan : Plan) (s t : State)
    → ((a : ℕ) → (stream_at s a).strings ≡ (stream_at t a).strings)
    → values_of value plan (strings_of s) ≡ values_of value plan (strings_of t)
values_same value plan s t same = ap (values_of value plan) (fun_ext same)
