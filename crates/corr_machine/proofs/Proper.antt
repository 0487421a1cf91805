-- Each event keeps a proper state proper: strings, ends and columns put.
use Rattle.std.proofs.Common.{◌≡◌, ◌≢◌, ℕ, ◌+◌, ◌%◌, ◌<◌, ◌≤◌, Bool, true, false, not, cond, ltb, eqb, ◌&&◌, List, [], length, get_or, set, replicate, Option, Some, None, refl, sym, ap, ◌∙◌, subst, inl, inr, arith}
use Rattle.std.specs.List.{count_by}
use Rattle.std.specs.Option.{is_some, unwrap_or}
use Rattle.std.proofs.lemmas.List.{get_or-set_same, get_or-set_other, length-set, length-replicate, get_or-replicate, length-map, get_or-map}
use Rattle.std.proofs.lemmas.Bool.{cases_eq, lt-ltb, le-ltb, ltb-true, eqb-true, eq-eqb, ne_eqb, and_parts, not-true}
use Rattle.std.proofs.lemmas.Nat.{mod_below}
use Rattle.std.proofs.Math.Nat.{add-mod_right, mod-eq_of_lt, mul-zero}
use Rattle.std.proofs.lemmas.List.Sums.{get_or-le-sum_by}
use Rattle.std.proofs.lemmas.List.Folds.{sum_by-replicate}
use Rattle.corr_model.proofs.StreamLawsTaken.{never_stopped, ending_open}
use Rattle.corr_model.proofs.CountedLists.{length-numbers, get_or-numbers}
use Rattle.corr_model.specs.Lists.{numbers}
use Rattle.corr_model.specs.declared.plan.Plan.{Plan}
use Rattle.corr_model.specs.Streams.{floor}
use Rattle.corr_machine.specs.Machines.{Kind, Filling, Working, Done, StreamState, SlotState, State, Event, Packet, End, Put, Take, Store, Send, new_stream, empty_slot, no_slot, work_count, stream_at, slot_at, slot_for, work_at, stream_floor, is_filling, is_working, is_done, is_full, stands_in, is_ready, fills, works_on, enabled, effect, step, opening, result_stored, with_stream, with_slot, with_work, with_string, with_column, column_put, holds, IsProperStream, IsProperSlot, IsProper}
use Rattle.corr_machine.proofs.Places.{set_each, ltb_next, list_all_get, count_set}
use Rattle.corr_machine.proofs.Floors.{floor_within, floor_with_string}

-- the streams after a change of one
pub each_stream : (state : State) (a : ℕ) (x : StreamState) (P : ℕ → StreamState → Type 0) → a < length state.streams
    → P a x → ((b : ℕ) → b ≢ a → P b (stream_at state b)) → (b : ℕ) → P b (stream_at (with_stream state a x) b)
each_stream state a x P within here there = set_each P state.streams a x new_stream within here there

-- the slots after a change of one
pub each_slot : (state : State) (s : ℕ) (x : SlotState) (P : ℕ → SlotState → Type 0) → s < length state.slots → P s x
    → ((t : ℕ) → t ≢ s → P t (slot_at state t)) → (t : ℕ) → P t (slot_at (with_slot state s x) t)
each_slot state s x P within here there = set_each P state.slots s x no_slot within here there

-- a stream that takes strings or its end
pub stream_changed : (plan : Plan) (state : State) (a : ℕ) (x : StreamState) → IsProper plan state → a < plan.antennas
    → x.put ≡ (stream_at state a).put → IsProperStream plan state.sent a x → IsProper plan (with_stream state a x)
stream_changed plan state a x h within same proper =
    let inside : a < length state.streams = omega (arith, h.stream_count) in
    record {
      stream_count = length-set state.streams a x ∙ h.stream_count;
      slot_count = h.slot_count;
      works = h.works;
      stream = each_stream state a x (λ b y. b < plan.antennas → IsProperStream plan state.sent b y) inside
          (λ low. proper) (λ b ne. h.stream b);
      slot = h.slot;
      stands = λ s b low few.
          let puts : (stream_at (with_stream state a x) b).put ≡ (stream_at state b).put =
          each_stream state a x (λ c y. y.put ≡ (stream_at state c).put) inside same (λ c ne. refl) b in
          h.stands s b low few ∙ ap (ltb (slot_at state s).number) (sym puts);
      held = h.held;
    }

-- what a stream that is ready is
pub record IsOpen (plan : Plan) (a : ℕ) (x : StreamState) : Type 0 where
  pub not_ended : x.ended ≡ false
  pub all_put : x.put ≡ floor plan a x.strings false

pub ready_parts : (plan : Plan) (a : ℕ) (x : StreamState) → is_ready plan a x ≡ true → IsOpen plan a x
ready_parts plan a x h =
    let parts = and_parts (not x.ended) (eqb x.put (stream_floor plan a x)) h in
    let still = not-true x.ended parts.0 in
    record {
      not_ended = still;
      all_put = eqb-true x.put (stream_floor plan a x) parts.1 ∙ ap (floor plan a x.strings) still;
    }

-- a string more
pub packet_proper : (plan : Plan) (state : State) (a : ℕ) (b : List ℕ) → IsProper plan state
    → enabled plan state (Packet a b) ≡ true → IsProper plan (effect plan state (Packet a b))
packet_proper plan state a b h on =
    let x = stream_at state a in
    let parts = and_parts (ltb a plan.antennas) (is_ready plan a x) on in
    let within = ltb-true a plan.antennas parts.0 in
    let is_open = ready_parts plan a x parts.1 in
    let old = h.stream a within in
    let up = floor_with_string plan a x.strings b in
    stream_changed plan state a (with_string plan b x) h within refl
    (record {
      closed = omega (arith, up, is_open.all_put);
      not_behind = old.not_behind;
      not_ahead = old.not_ahead;
      ended = λ e. e;
    })

-- an end
pub end_proper : (plan : Plan) (state : State) (a : ℕ) → IsProper plan state → enabled plan state (End a) ≡ true
    → IsProper plan (effect plan state (End a))
end_proper plan state a h on =
    let x = stream_at state a in
    let parts = and_parts (ltb a plan.antennas) (is_ready plan a x) on in
    let within = ltb-true a plan.antennas parts.0 in
    let old = h.stream a within in
    let low = floor_within plan a x.strings x.ended in
    stream_changed plan state a (record x { ended = true }) h within refl
    (record {
      closed = omega (arith, old.closed, low);
      not_behind = old.not_behind;
      not_ahead = old.not_ahead;
      ended = λ e. refl;
    })

-- the slot of a number is one of the ring's
pub for_within : (plan : Plan) (state : State) (n : ℕ) → 0 < plan.slots → IsProper plan state
    → n % plan.slots < length state.slots
for_within plan state n some h = omega (arith, h.slot_count, mod_below n plan.slots some)

-- two slots have two numbers
pub other_number : (plan : Plan) (state : State) (s n : ℕ) → IsProper plan state → s < plan.slots → s ≢ n % plan.slots
    → (slot_at state s).number ≢ n
other_number plan state s n h low ne e = ne (sym (h.slot s low).place ∙ ap (λ m. m % plan.slots) e)

-- a slot that keeps its number
pub record Keeps (x y : SlotState) : Type 0 where
  pub number : y.number ≡ x.number
  pub columns : length y.columns ≡ length x.columns

-- a changed slot that keeps its number is proper where it is full or filling
pub slot_kept : (plan : Plan) (sent s : ℕ) (x y : SlotState) → IsProperSlot plan sent s x → Keeps x y
    → (is_filling y.kind ≡ false → is_full y ≡ true) → IsProperSlot plan sent s y
slot_kept plan sent s x y h keeps full = record {
  place = ap (λ n. n % plan.slots) keeps.number ∙ h.place;
  not_sent = omega (arith, keeps.number, h.not_sent);
  within = omega (arith, keeps.number, h.within);
  columns = keeps.columns ∙ h.columns;
  full = full;
}

-- what a slot that waits for a number is
pub fills_parts : (n : ℕ) (x : SlotState) → fills n x ≡ true → (x.number ≡ n) × (is_filling x.kind ≡ true)
fills_parts n x h = let parts =
    and_parts (eqb x.number n) (is_filling x.kind) h in (eqb-true x.number n parts.0, parts.1)

-- the marks of a slot with the column of antenna a
pub stands_more : (x : SlotState) (a b : ℕ) → a < length x.columns
    → (b ≡ a → stands_in (with_column a x) b ≡ true) × (b ≢ a → stands_in (with_column a x) b ≡ stands_in x b)
stands_more x a b h = (
  (λ e. ap (stands_in (with_column a x)) e ∙ get_or-set_same x.columns a true false h),
  (λ ne. get_or-set_other x.columns a b true false ne),
)

-- a column of antenna a put into the slot for number n
pub put_in : (plan : Plan) (state : State) (a n : ℕ) → 0 < plan.slots → IsProper plan state → a < plan.antennas
    → (stream_at state a).put ≡ n → n < stream_floor plan a (stream_at state a) → fills n (slot_for plan state n) ≡ true
    → IsProper plan (column_put plan state a n)
put_in plan state a n some h within at_n below fill =
    let x = stream_at state a in
    let x' : StreamState = record x { put = n + 1 } in
    let s = n % plan.slots in
    let low = mod_below n plan.slots some in
    let z = slot_for plan state n in
    let is = fills_parts n z fill in
    let old = h.slot s low in
    let inside : a < length state.streams = omega (arith, h.stream_count) in
    let place = for_within plan state n some h in
    let marks = stands_more z a in
    let there : a < length z.columns = omega (arith, old.columns) in
    let put_same : (stream_at (with_stream state a x') a).put ≡ n + 1 =
    ap (λ (y : StreamState). y.put) (get_or-set_same state.streams a x' new_stream inside) in
    let put_other : (b : ℕ) → b ≢ a → (stream_at (with_stream state a x') b).put ≡ (stream_at state b).put =
    λ b ne. ap (λ (y : StreamState). y.put) (get_or-set_other state.streams a b x' new_stream ne) in
    record {
      stream_count = length-set state.streams a x' ∙ h.stream_count;
      slot_count = length-set state.slots s (with_column a z) ∙ h.slot_count;
      works = h.works;
      stream = each_stream state a x' (λ b y. b < plan.antennas → IsProperStream plan state.sent b y) inside
          (λ few. let was = h.stream a few in record {
            closed = omega (arith, below);
            not_behind = omega (arith, was.not_behind, at_n);
            not_ahead = omega (arith, old.within, is.0);
            ended = was.ended;
          })
          (λ b ne. h.stream b);
      slot = each_slot state s (with_column a z) (λ t y. t < plan.slots → IsProperSlot plan state.sent t y) place
          (λ few. slot_kept plan state.sent s z (with_column a z) old
          (record { number = refl; columns = length-set z.columns a true })
          (λ not_filling. absurd (let filling = is.1 in cc)))
          (λ t ne. h.slot t);
      stands = λ t b few. each_slot state s (with_column a z)
          (λ t y. t < plan.slots → b < plan.antennas
          → stands_in y b ≡ ltb y.number (stream_at (with_stream state a x') b).put) place
          (λ few less. elim (cases_eq b a) [
            | inl e ↦ (marks b there).0 e ∙ sym
                (ap (λ c. ltb z.number (stream_at (with_stream state a x') c).put) e ∙ ap (ltb z.number) put_same ∙
                lt-ltb z.number (n + 1) (omega (arith, is.0)))
            | inr ne ↦ (marks b there).1 ne ∙ h.stands s b low less ∙ sym (ap (ltb z.number) (put_other b ne))
          ])
          (λ t ne few less. elim (cases_eq b a) [
            | inl e ↦
                let is_old = h.stands t a few within ∙ ap (ltb (slot_at state t).number) at_n ∙ ltb_next
                (slot_at state t).number n (other_number plan state t n h few ne) in
                ap (stands_in (slot_at state t)) e ∙ is_old ∙ sym
                (ap (λ c. ltb (slot_at state t).number (stream_at (with_stream state a x') c).put) e ∙ ap
                (ltb (slot_at state t).number) put_same)
            | inr other ↦ h.stands t b few less ∙ sym (ap (ltb (slot_at state t).number) (put_other b other))
          ])
          t few;
      held = λ m. h.held m ∙ ap (λ r. cond r 1 0)
          (sym (each_slot state s (with_column a z) (λ t y. works_on m y ≡ works_on m (slot_at state t)) place refl
          (λ t ne. refl) (m % plan.slots)));
    }

-- a column put
pub put_proper : (plan : Plan) (state : State) (a : ℕ) → 0 < plan.slots → IsProper plan state
    → enabled plan state (Put a) ≡ true → IsProper plan (effect plan state (Put a))
put_proper plan state a some h on =
    let x = stream_at state a in
    let first = and_parts (ltb a plan.antennas)
    (ltb x.put (stream_floor plan a x) && fills x.put (slot_for plan state x.put)) on in
    let second = and_parts (ltb x.put (stream_floor plan a x)) (fills x.put (slot_for plan state x.put)) first.1 in
    put_in plan state a x.put some h (ltb-true a plan.antennas first.0) refl
    (ltb-true x.put (stream_floor plan a x) second.0) second.1

none_since : {A : Type 0} (o : Option A) → is_some o ≡ false → o ≡ None
none_since None h = refl
none_since (Some x) h = absurd cc

-- a slot that keeps its number and columns, and a work with another number
slot_changed : (plan : Plan) (state : State) (s w : ℕ) (y : SlotState) (o : Option ℕ) → IsProper plan state
    → s < plan.slots
    → y.number ≡ (slot_at state s).number → y.columns ≡ (slot_at state s).columns → IsProperSlot plan state.sent s y
    → ((m : ℕ) → count_by (holds m) (set state.works w o)
    ≡ cond (works_on m (slot_at (with_slot state s y) (m % plan.slots))) 1 0)
    → IsProper plan (with_work (with_slot state s y) w o)
slot_changed plan state s w y o h low number columns proper held =
    let place : s < length state.slots = omega (arith, h.slot_count) in
    record {
      stream_count = h.stream_count;
      slot_count = length-set state.slots s y ∙ h.slot_count;
      works = length-set state.works w o ∙ h.works;
      stream = h.stream;
      slot = each_slot state s y (λ t z. t < plan.slots → IsProperSlot plan state.sent t z) place (λ few. proper)
          (λ t ne. h.slot t);
      stands = λ t b few less.
          each_slot state s y (λ t z. t < plan.slots → stands_in z b ≡ ltb z.number (stream_at state b).put) place
          (λ few. ap (λ cs. get_or cs b false) columns ∙ h.stands s b few less ∙ ap (λ n. ltb n (stream_at state b).put)
          (sym number)) (λ t ne few. h.stands t b few less) t few;
      held = held;
    }

working_from : (k : Kind) (b : Bool) → is_filling k ≡ true
    → cond (b && true) 1 0 ≡ cond (b && is_working k) 1 0 + cond b 1 0
working_from Filling true h = refl
working_from Filling false h = refl
working_from Working b h = absurd cc
working_from Done b h = absurd cc

-- numbers in other slots are other numbers
apart : (k m n s t : ℕ) → n % k ≡ s → t ≡ m % k → t ≢ s → eqb n m ≡ false
apart k m n s t e f ne = ne_eqb n m (λ same. ne (f ∙ ap (λ i. i % k) (sym same) ∙ e))

-- the next count where a free work takes a number
takes_one : (a b c d : ℕ) → a + 0 ≡ b + d → b ≡ c → a ≡ c + d
takes_one a b c d e f = omega arith

-- a slot taken
pub take_proper : (plan : Plan) (state : State) (w s : ℕ) → 0 < plan.slots → IsProper plan state
    → enabled plan state (Take w s) ≡ true → IsProper plan (effect plan state (Take w s))
take_proper plan state w s some h on =
    let x = slot_at state s in
    let first = and_parts (ltb w (work_count plan))
    (ltb s plan.slots && (not (is_some (work_at state w)) && (is_filling x.kind && is_full x))) on in
    let second = and_parts (ltb s plan.slots)
    (not (is_some (work_at state w)) && (is_filling x.kind && is_full x)) first.1 in
    let third = and_parts (not (is_some (work_at state w))) (is_filling x.kind && is_full x) second.1 in
    let fourth = and_parts (is_filling x.kind) (is_full x) third.1 in
    let low = ltb-true s plan.slots second.0 in
    let few = ltb-true w (work_count plan) first.0 in
    let inside : w < length state.works = omega (arith, h.works) in
    let place : s < length state.slots = omega (arith, h.slot_count) in
    let y : SlotState = record x { kind = Working } in
    let free = none_since (work_at state w) (not-true (is_some (work_at state w)) third.0) in
    slot_changed plan state s w y (Some x.number) h low refl refl
    (slot_kept plan state.sent s x y (h.slot s low) (record { number = refl; columns = refl }) (λ e. fourth.1))
    (λ m.
    let counted = count_set (holds m) state.works w (Some x.number) None inside in
    let nothing : ◌≡◌ {A = ℕ} (cond (holds m (work_at state w)) 1 0) 0 = ap (λ o. cond (holds m o) 1 0) free in
    let now : count_by (holds m) (set state.works w (Some x.number))
    ≡ cond (works_on m (slot_for plan state m)) 1 0 + cond (eqb x.number m) 1 0 =
    omega (arith, counted, nothing, h.held m) in
    let slots = each_slot state s y
    (λ t z. t ≡ m % plan.slots
    → cond (works_on m z) 1 0 ≡ cond (works_on m (slot_at state t)) 1 0 + cond (eqb x.number m) 1 0) place
    (λ e. working_from x.kind (eqb x.number m) fourth.0)
    (λ t ne e. let no_more =
    ap {B = ℕ} (λ r. cond r 1 0) (apart plan.slots m x.number s t (h.slot s low).place e ne) in omega
    (arith, no_more)) in
    now ∙ sym (slots (m % plan.slots) refl))

pub held_one : (p : Option ℕ → Bool) (os : List (Option ℕ)) (w : ℕ) → w < length os → p (get_or os w None) ≡ true
    → 1 ≤ count_by p os
held_one p os w h here =
    let one : ◌≡◌ {A = ℕ} (cond (p (get_or os w None)) 1 0) 1 = ap (λ b. cond b 1 0) here in
    omega (arith, get_or-le-sum_by (λ o. cond (p o) 1 0) os w None h, one)

one_since : (b : Bool) → 1 ≤ cond b 1 0 → b ≡ true
one_since true h = refl
one_since false h = absurd (omega arith)

pub not_filling : (k : Kind) → is_working k ≡ true → is_filling k ≡ false
not_filling Filling h = absurd cc
not_filling Working h = refl
not_filling Done h = absurd cc

done_from : (k : Kind) (b c : Bool) → is_working k ≡ true → b ≡ c
    → cond (b && false) 1 0 + cond c 1 0 ≡ cond (b && is_working k) 1 0
done_from Working true true h e = refl
done_from Working false false h e = refl
done_from Working true false h e = absurd cc
done_from Working false true h e = absurd cc
done_from Filling b c h e = absurd cc
done_from Done b c h e = absurd cc

-- the number of a work is that of a slot that is working on it
pub work_has_slot : (plan : Plan) (state : State) (w n : ℕ) → IsProper plan state → w < work_count plan
    → work_at state w ≡ Some n → works_on n (slot_for plan state n) ≡ true
work_has_slot plan state w n h few has =
    let inside : w < length state.works = omega (arith, h.works) in
    let here : holds n (work_at state w) ≡ true = ap (holds n) has ∙ eq-eqb n n refl in
    one_since (works_on n (slot_for plan state n))
    (omega (arith, held_one (holds n) state.works w inside here, h.held n))

-- a result stored
pub stored : (plan : Plan) (state : State) (w n : ℕ) → 0 < plan.slots → IsProper plan state → w < work_count plan
    → work_at state w ≡ Some n → IsProper plan (result_stored plan state w n)
stored plan state w n some h few has =
    let s = n % plan.slots in
    let x = slot_for plan state n in
    let low = mod_below n plan.slots some in
    let inside : w < length state.works = omega (arith, h.works) in
    let place : s < length state.slots = omega (arith, h.slot_count) in
    let y : SlotState = record x { kind = Done } in
    let parts = and_parts (eqb x.number n) (is_working x.kind) (work_has_slot plan state w n h few has) in
    slot_changed plan state s w y None h low refl refl
    (slot_kept plan state.sent s x y (h.slot s low) (record { number = refl; columns = refl })
    (λ e. (h.slot s low).full (not_filling x.kind parts.1)))
    (λ m.
    let counted = count_set (holds m) state.works w None None inside in
    let was : ◌≡◌ {A = ℕ} (cond (holds m (work_at state w)) 1 0) (cond (eqb n m) 1 0) =
    ap (λ o. cond (holds m o) 1 0) has in
    let slots = each_slot state s y
    (λ t z. t ≡ m % plan.slots
    → cond (works_on m z) 1 0 + cond (eqb n m) 1 0 ≡ cond (works_on m (slot_at state t)) 1 0) place
    (λ e. done_from x.kind (eqb x.number m) (eqb n m) parts.1 (ap (λ i. eqb i m) (eqb-true x.number n parts.0)))
    (λ t ne e. let no_more =
    ap {B = ℕ} (λ r. cond r 1 0) (apart plan.slots m n s t refl e ne) in omega (arith, no_more))
    (m % plan.slots) refl in
    omega (arith, counted, was, h.held m, slots))

pub some_since : (o : Option ℕ) → is_some o ≡ true → o ≡ Some (unwrap_or o 0)
some_since None h = absurd cc
some_since (Some n) h = refl

pub store_proper : (plan : Plan) (state : State) (w : ℕ) → 0 < plan.slots → IsProper plan state
    → enabled plan state (Store w) ≡ true → IsProper plan (effect plan state (Store w))
store_proper plan state w some h on =
    let parts = and_parts (ltb w (work_count plan)) (is_some (work_at state w)) on in
    stored plan state w (unwrap_or (work_at state w) 0) some h (ltb-true w (work_count plan) parts.0)
    (some_since (work_at state w) parts.1)

pub not_filling_done : (k : Kind) → is_done k ≡ true → is_filling k ≡ false
not_filling_done Filling h = absurd cc
not_filling_done Working h = absurd cc
not_filling_done Done h = refl

not_working_done : (k : Kind) → is_done k ≡ true → is_working k ≡ false
not_working_done Filling h = absurd cc
not_working_done Working h = absurd cc
not_working_done Done h = refl

-- a full slot has the column of each antenna, so each has put more than its number
pub full_put : (plan : Plan) (state : State) (s a : ℕ) → IsProper plan state → s < plan.slots → a < plan.antennas
    → is_full (slot_at state s) ≡ true → (slot_at state s).number < (stream_at state a).put
full_put plan state s a h low few full =
    let x = slot_at state s in
    ltb-true x.number (stream_at state a).put
    (sym (h.stands s a low few) ∙ list_all_get x.columns a (omega (arith, (h.slot s low).columns)) full)

and_false : (b c : Bool) → c ≡ false → (b && c) ≡ false
and_false true c h = h
and_false false c h = refl

-- the next result sent
pub send_proper : (plan : Plan) (state : State) → 0 < plan.slots → IsProper plan state → enabled plan state Send ≡ true
    → IsProper plan (effect plan state Send)
send_proper plan state some h on =
    let n = state.sent in
    let s = n % plan.slots in
    let x = slot_for plan state n in
    let y = empty_slot plan (n + plan.slots) in
    let low = mod_below n plan.slots some in
    let place : s < length state.slots = omega (arith, h.slot_count) in
    let parts = and_parts (eqb x.number n) (is_done x.kind) on in
    let at_n = eqb-true x.number n parts.0 in
    let full = (h.slot s low).full (not_filling_done x.kind parts.1) in
    record {
      stream_count = h.stream_count;
      slot_count = length-set state.slots s y ∙ h.slot_count;
      works = h.works;
      stream = λ a few. let was = h.stream a few in record {
        closed = was.closed;
        not_behind = omega (arith, full_put plan state s a h low few full, at_n);
        not_ahead = omega (arith, was.not_ahead);
        ended = was.ended;
      };
      slot = each_slot state s y (λ t z. t < plan.slots → IsProperSlot plan (n + 1) t z) place
          (λ few. record {
            place = add-mod_right n plan.slots;
            not_sent = omega (arith, some);
            within = omega (arith, some);
            columns = length-replicate plan.antennas false;
            full = λ e. absurd cc;
          })
          (λ t ne few. let was = h.slot t few in let other = other_number plan state t n h few ne in record {
            place = was.place;
            not_sent = omega (arith, was.not_sent, other);
            within = omega (arith, was.within);
            columns = was.columns;
            full = was.full;
          });
      stands = λ t b few less.
          each_slot state s y (λ t z. t < plan.slots → stands_in z b ≡ ltb z.number (stream_at state b).put) place
          (λ few. get_or-replicate plan.antennas b false false less ∙ sym
          (le-ltb (n + plan.slots) (stream_at state b).put (h.stream b less).not_ahead))
          (λ t ne few. h.stands t b few less) t few;
      held = λ m. h.held m ∙ ap (λ r. cond r 1 0)
          (sym (each_slot state s y (λ t z. works_on m z ≡ works_on m (slot_at state t)) place
          (and_false (eqb y.number m) false refl ∙ sym
          (and_false (eqb x.number m) (is_working x.kind) (not_working_done x.kind parts.1)))
          (λ t ne. refl) (m % plan.slots)));
    }

stays_or : (plan : Plan) (state : State) (e : Event) (on : Bool) → IsProper plan state
    → (on ≡ true → IsProper plan (effect plan state e)) → IsProper plan (cond on (effect plan state e) state)
stays_or plan state e true h f = f refl
stays_or plan state e false h f = h

effect_proper : (plan : Plan) (state : State) (e : Event) → 0 < plan.slots → IsProper plan state
    → enabled plan state e ≡ true → IsProper plan (effect plan state e)
effect_proper plan state (Packet a b) some h on = packet_proper plan state a b h on
effect_proper plan state (End a) some h on = end_proper plan state a h on
effect_proper plan state (Put a) some h on = put_proper plan state a some h on
effect_proper plan state (Take w s) some h on = take_proper plan state w s some h on
effect_proper plan state (Store w) some h on = store_proper plan state w some h on
effect_proper plan state Send some h on = send_proper plan state some h on

-- each event keeps a proper state proper
pub step_proper : (plan : Plan) (state : State) (e : Event) → 0 < plan.slots → IsProper plan state
    → IsProper plan (step plan state e)
step_proper plan state e some h = stays_or plan state e (enabled plan state e) h (effect_proper plan state e some h)

-- nothing is held by works that are all free
count_none : (m n : ℕ) → count_by (holds m) (replicate n None) ≡ 0
count_none m n = sum_by-replicate (λ o. cond (holds m o) 1 0) n None ∙ mul-zero n

slot_first : (plan : Plan) (s : ℕ) → s < plan.slots → slot_at (opening plan) s ≡ empty_slot plan s
slot_first plan s low =
    get_or-map (empty_slot plan) (numbers 0 plan.slots) s 0 no_slot (omega (arith, length-numbers 0 plan.slots))
    ∙ ap (empty_slot plan) (get_or-numbers 0 plan.slots s 0 low ∙ (let e : 0 + s ≡ s = omega arith in e))

-- the opening is proper
pub opening_proper : (plan : Plan) → 0 < plan.slots → 0 < plan.packet_limit → IsProper plan (opening plan)
opening_proper plan some strings = record {
  stream_count = length-replicate plan.antennas new_stream;
  slot_count = length-map (numbers 0 plan.slots) (empty_slot plan) ∙ length-numbers 0 plan.slots;
  works = length-replicate (work_count plan) None;
  stream = λ a few. subst (IsProperStream plan 0 a) (sym (get_or-replicate plan.antennas a new_stream new_stream few))
      (record {
        closed = omega arith;
        not_behind = omega arith;
        not_ahead = omega arith;
        ended = λ e. absurd (let still = ap is_some (ending_open plan [] (never_stopped plan) strings) in cc);
      });
  slot = λ s low. subst (IsProperSlot plan 0 s) (sym (slot_first plan s low)) (record {
    place = mod-eq_of_lt low;
    not_sent = omega arith;
    within = omega arith;
    columns = length-replicate plan.antennas false;
    full = λ e. absurd cc;
  });
  stands = λ s a low few.
      ap (λ x. stands_in x a) (slot_first plan s low) ∙ get_or-replicate plan.antennas a false false few
      ∙ sym (ap (λ x. ltb (slot_at (opening plan) s).number x.put)
      (get_or-replicate plan.antennas a new_stream new_stream few) ∙ le-ltb (slot_at (opening plan) s).number 0
      (omega arith));
  held = λ m. count_none m (work_count plan) ∙ sym
      (ap (λ x. cond (works_on m x) 1 0) (slot_first plan (m % plan.slots) (mod_below m plan.slots some)) ∙ ap
      (λ b. cond b 1 0) (and_false (eqb (m % plan.slots) m) false refl));
}
