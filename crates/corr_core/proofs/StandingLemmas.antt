-- The changes of a slot and of a work are those of the machine.
use Rattle.std.proofs.Common.{◌≡◌, ℕ, suc, ◌+◌, ◌<◌, true, false, List, [], ◌∷◌, length, get_or, set, replicate, Option, Some, None, refl, sym, ap, ◌∙◌, subst, inl, inr, arith}
use Rattle.std.proofs.lemmas.List.{map-set, length-set, get_or-set_same, get_or-set_other}
use Rattle.std.proofs.lemmas.Bool.{cases_eq}
use Rattle.corr_model.specs.declared.plan.Plan.{Plan}
use Rattle.slot_column.specs.Columns.{Hand, Cells}
use Rattle.slot_ring.specs.declared.held.Kind.{Kind as SlotKind}
use Rattle.slot_ring.specs.declared.held.Kind.TheVariants as kinds
use Rattle.slot_ring.specs.declared.work.Stage.TheVariants.{Free, Computed}
use Rattle.slot_ring.specs.declared.held.Held.{Held}
use Rattle.slot_ring.specs.Means.{AreSpare}
use Rattle.slot_ring.specs.Slots.{View, WorkView, held_of}
use Rattle.slot_ring.specs.Answers.{AcceptsPut, RefusesPut, AcceptsTake, RefusesTake, AcceptsStore, RefusesStore, AcceptsSend, RefusesSend}
use Rattle.corr_machine.specs.Machines.{Working, Done, SlotState, is_filling, is_working, is_done, with_column, empty_slot}
use Rattle.corr_core.specs.Standing.{Values, kind_of, marks_of, AreColumnsOf, SlotStandsFor, WorkStandsFor}

-- a kind of a slot, by the machine's
pub seen_filling : (k : SlotKind) → is_filling (kind_of k) ≡ true → k ≡ kinds.Filling
seen_filling kinds.Filling h = refl
seen_filling kinds.Working h = absurd cc
seen_filling kinds.Done h = absurd cc

pub seen_working : (k : SlotKind) → is_working (kind_of k) ≡ true → k ≡ kinds.Working
seen_working kinds.Working h = refl
seen_working kinds.Filling h = absurd cc
seen_working kinds.Done h = absurd cc

pub seen_done : (k : SlotKind) → is_done (kind_of k) ≡ true → k ≡ kinds.Done
seen_done kinds.Done h = refl
seen_done kinds.Filling h = absurd cc
seen_done kinds.Working h = absurd cc

-- what a slot refuses it does not accept
pub refuses_put : (held : Held) (c : Cells) → RefusesPut held c → AcceptsPut held c → ⊥
refuses_put held c (inl other) to = other to.same_plan
refuses_put held c (inr (inl other)) to = other to.same_number
refuses_put held c (inr (inr other)) to = other to.filling

pub refuses_take : (held : Held) (plan : Plan) → RefusesTake held plan → AcceptsTake held plan → ⊥
refuses_take held plan (inl other) to = other to.same_plan
refuses_take held plan (inr (inl other)) to = other to.filling
refuses_take held plan (inr (inr few)) to = let full = to.full in omega (arith, few, full)

pub refuses_store : (held : Held) (plan : Plan) (n : ℕ) → RefusesStore held plan n → AcceptsStore held plan n → ⊥
refuses_store held plan n (inl other) to = other to.same_plan
refuses_store held plan n (inr (inl other)) to = other to.same_number
refuses_store held plan n (inr (inr other)) to = other to.working

pub refuses_send : (held : Held) (plan : Plan) (n : ℕ) → RefusesSend held plan n → AcceptsSend held plan n → ⊥
refuses_send held plan n (inl other) to = other to.same_plan
refuses_send held plan n (inr (inl other)) to = other to.same_number
refuses_send held plan n (inr (inr other)) to = other to.done

-- a column put into the slot that waits for it
pub put_stands : (plan : Plan) (values : Values) (s : View) (x : SlotState) (hand : Hand)
    → SlotStandsFor plan values s x → AcceptsPut (held_of s) hand.column
    → hand.column.antenna < plan.antennas → hand.is_closed ≡ true
    → hand.column.cells ≡ values.column hand.column.antenna hand.column.number
    → SlotStandsFor plan values (record s { columns = set s.columns hand.column.antenna hand })
    (with_column hand.column.antenna x)
put_stands plan values s x hand h for' few closed cells =
    let a0 = hand.column.antenna in
    let fills : is_filling (kind_of s.kind) ≡ true = ap (λ k. is_filling (kind_of k)) for'.filling in
    let place : a0 < length s.columns = omega (arith, h.count, few) in
    record {
      plan_is = h.plan_is;
      count = length-set s.columns a0 hand ∙ h.count;
      number = h.number;
      kind = h.kind;
      marks = λ e.
          ap (λ bs. set bs a0 true) (h.marks e) ∙ ap (set (marks_of s.columns) a0) (sym closed)
          ∙ sym (map-set (λ (c : Hand). c.is_closed) s.columns a0 hand);
      cells = λ e a d low is. elim (cases_eq a a0) [
        | inl same ↦
            let here = ap (λ b. get_or (set s.columns a0 hand) b d) same ∙ get_or-set_same s.columns a0 hand d place in
            ap (λ (c : Hand). c.column.cells) here ∙ cells ∙ ap (values.column a0) (sym for'.same_number) ∙ ap
            (λ b. values.column b s.number) (sym same)
        | inr ne ↦
            let there = get_or-set_other s.columns a0 a hand d ne in
            ap (λ (c : Hand). c.column.cells) there ∙ h.cells fills a d
            (omega (arith, low, length-set s.columns a0 hand)) (sym (ap (λ (c : Hand). c.is_closed) there) ∙ is)
      ];
      result = λ e. absurd (let f = for'.filling in let g = ap (λ k. is_filling (kind_of k)) (sym f ∙ e) in cc);
    }

-- no mark where no column stands
pub none_closed : (hs : List Hand) → AreSpare hs → marks_of hs ≡ replicate (length hs) false
none_closed [] h = refl
none_closed (c ∷ hs) h =
    ap (λ b. b ∷ marks_of hs) (h 0 c (omega arith)) ∙ ap (λ bs. false ∷ bs)
    (none_closed hs (λ a d low. h (suc a) d (omega (arith, low))))

-- a full slot taken by a free work: the slot
pub take_slot_stands : (plan : Plan) (values : Values) (s : View) (x : SlotState) (w : WorkView)
    → SlotStandsFor plan values s x → WorkStandsFor plan values w None → AcceptsTake (held_of s) w.plan
    → SlotStandsFor plan values (record s { kind = kinds.Working; columns = w.columns }) (record x { kind = Working })
take_slot_stands plan values s x w h free to = record {
  plan_is = h.plan_is;
  count = free.count;
  number = h.number;
  kind = refl;
  marks = λ e. absurd cc;
  cells = λ e. absurd cc;
  result = λ e. absurd (let g = ap (λ k. is_working (kind_of k)) e in cc);
}

-- and the work, which computed
pub take_work_stands : (plan : Plan) (values : Values) (s : View) (x : SlotState) (w v : WorkView)
    → SlotStandsFor plan values s x → WorkStandsFor plan values w None → AcceptsTake (held_of s) w.plan
    → v ≡ record w { stage = Computed; number = s.number; columns = s.columns; out = v.out }
    → v.out.sums ≡ values.result s.number
    → WorkStandsFor plan values v (Some x.number)
take_work_stands plan values s x w v h free to is out =
    let columns = ap (λ (k : WorkView). k.columns) is in
    let cells = subst (λ n. AreColumnsOf values n s.columns) h.number
    (h.cells (ap (λ k. is_filling (kind_of k)) to.filling)) in
    record {
      plan_is = ap (λ (k : WorkView). k.plan) is ∙ free.plan_is;
      count = ap length columns ∙ h.count;
      number = (
        ap (λ (k : WorkView). k.stage) is,
        ap (λ (k : WorkView). k.number) is ∙ h.number,
        subst
            (AreColumnsOf values x.number) (sym columns) cells,
        out ∙ ap values.result h.number,
      );
    }

-- a computed value stored: the slot
pub store_slot_stands : (plan : Plan) (values : Values) (s : View) (x : SlotState) (w : WorkView) (n : ℕ)
    → SlotStandsFor plan values s x → WorkStandsFor plan values w (Some n) → AcceptsStore (held_of s) w.plan w.number
    → SlotStandsFor plan values (record s { kind = kinds.Done; out = w.out }) (record x { kind = Done })
store_slot_stands plan values s x w n h has to = record {
  plan_is = h.plan_is;
  count = h.count;
  number = h.number;
  kind = refl;
  marks = λ e. absurd cc;
  cells = λ e. absurd cc;
  result = λ e. has.number.3 ∙ ap values.result (sym has.number.1 ∙ sym to.same_number);
}

-- and the work, which is free
pub store_work_stands : (plan : Plan) (values : Values) (w v : WorkView) (o : Option ℕ) → WorkStandsFor plan values w o
    → v.plan ≡ w.plan → length v.columns ≡ length w.columns → v.stage ≡ Free → WorkStandsFor plan values v None
store_work_stands plan values w v o h same count free =
    record { plan_is = same ∙ h.plan_is; count = count ∙ h.count; number = free }

-- a value moved out: the slot waits for its next number
pub send_stands : (plan : Plan) (values : Values) (s v : View) (x : SlotState) (number : ℕ)
    → SlotStandsFor plan values s x → AreSpare s.columns
    → v ≡ record s { kind = kinds.Filling; number = number + s.plan.slots; out = v.out }
    → SlotStandsFor plan values v (empty_slot plan (number + plan.slots))
send_stands plan values s v x number h spare is =
    let next = number + s.plan.slots in
    let made : SlotStandsFor plan values (record s { kind = kinds.Filling; number = next; out = v.out })
    (empty_slot plan (number + plan.slots)) = record {
      plan_is = h.plan_is;
      count = h.count;
      number = ap (λ (p : Plan). number + p.slots) h.plan_is;
      kind = refl;
      marks = λ e. sym (none_closed s.columns spare ∙ ap (λ n. replicate n false) h.count);
      cells = λ e a d low closed. absurd (let off = spare a d low in cc);
      result = λ e. absurd (let g = ap (λ k. is_filling (kind_of k)) e in cc);
    } in
    subst (λ z. SlotStandsFor plan values z (empty_slot plan (number + plan.slots))) (sym is) made
