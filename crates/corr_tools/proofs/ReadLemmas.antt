-- The answers of a reader to datagrams, and the first that is refused.
use Rattle.std.proofs.Common.{◌≡◌, ℕ, zero, suc, ◌+◌, ◌==◌, not, Bool, true, false, if◌then◌else◌, List, [], ◌∷◌, ◌++◌, length, replicate, Option, Some, None, refl, sym, ap, ◌∙◌, arith}
use Rattle.std.specs.Option.{option_or}
use Rattle.std.proofs.lemmas.List.{append-nil}
use Rattle.std.proofs.lemmas.Grind.{flat_map-append}
use Rattle.corr_model.specs.declared.item.DescRefusal.{DescRefusal}
use Rattle.corr_model.specs.Packets.{Parts, parts_in}
use Rattle.corr_model.specs.Assembly.{WholeHeap, heap_of, adds_up, said_size, payload_bytes}
use Rattle.corr_model.specs.Items.{number_item, addressed_content}
use Rattle.corr_model.specs.Streams.{group_of, stops}
use Rattle.vis_read.specs.declared.cause.ReadCause.{ReadCause}
use Rattle.vis_read.specs.declared.cause.ReadCause.TheVariants as causes
use Rattle.vis_read.specs.declared.turn.Sizes.{Sizes}
use Rattle.vis_read.specs.declared.turn.Turn.{Turn}
use Rattle.vis_read.specs.declared.turn.Turn.TheVariants.{First, Later, Over, Broken}
use Rattle.vis_read.specs.Readings.{Answer, Nothing, Head, Heap, Stop, Refused, Reading, Read, are_long, between, broken, early_cause, first_by, kept_read, later_read, next_read, read_unless, seen_from, view_by, whole_read}
use Rattle.vis_read.specs.Endings.{cause_in}
use Rattle.vis_read.proofs.EndingLemmas.{refused_again}
use Rattle.corr_tools.specs.Decoding.{RefusedAt, answer_text, answers_text, first_refused, refused_at}

-- ---- a refusal is for good

-- a datagram that is refused breaks the reading for its cause
abbrev Breaks : Read → Type 0
Breaks read = (cause : ReadCause) → read.answer ≡ Refused cause → read.after.turn ≡ Broken cause

breaks_broken : (c : ReadCause) → Breaks (broken c)
breaks_broken c cause e = let same : c ≡ cause = cc in ap Broken same

breaks_if : (test : Bool) (x y : Read) → Breaks x → Breaks y → Breaks (if test then x else y)
breaks_if true x y h k = h
breaks_if false x y h k = k

breaks_first : (counter : ℕ) (refusal : Option DescRefusal) (sizes : Option Sizes)
    → Breaks (first_by counter refusal sizes)
breaks_first counter (Some e) sizes = breaks_broken (causes.Descriptor e)
breaks_first counter None None = breaks_broken (causes.Form counter)
breaks_first counter None (Some s) =
    breaks_if (counter == 1) (between (Head s) (Later s 2)) (broken (causes.Form counter)) (λ cause e. absurd cc)
    (breaks_broken (causes.Form counter))

breaks_view : (s : Sizes) (counter : ℕ) (timestamp : Option ℕ) (values missing : Option (List ℕ))
    → Breaks (view_by s counter timestamp values missing)
breaks_view s counter (Some timestamp) (Some values) (Some missing) =
    breaks_if (are_long s values missing) _ (broken (causes.Form counter)) (λ cause e. absurd cc)
    (breaks_broken (causes.Form counter))
breaks_view s counter (Some timestamp) (Some values) None = breaks_broken (causes.Form counter)
breaks_view s counter (Some timestamp) None missing = breaks_broken (causes.Form counter)
breaks_view s counter None values missing = breaks_broken (causes.Form counter)

breaks_later : (s : Sizes) (k : ℕ) (heap : WholeHeap) → Breaks (later_read s k heap)
breaks_later s k heap =
    let view = view_by s heap.counter (number_item (group_of heap) 0x1600) (addressed_content (group_of heap) 0x1800)
    (addressed_content (group_of heap) 0x1801) in
    breaks_if (not (heap.counter == k)) (broken (causes.Form heap.counter))
    (if stops heap then between Stop Over else view) (breaks_broken (causes.Form heap.counter))
    (breaks_if (stops heap) (between Stop Over) view (λ cause e. absurd cc) (breaks_view s heap.counter _ _ _))

breaks_whole : (t : Turn) (heap : WholeHeap) → Breaks (whole_read t heap)
breaks_whole First heap = breaks_first heap.counter _ _
breaks_whole (Later s counter) heap = breaks_later s counter heap
breaks_whole Over heap = breaks_broken causes.AfterStop
breaks_whole (Broken c) heap = breaks_broken c

breaks_kept : (t : Turn) (counter : ℕ) (ps : List Parts) → Breaks (kept_read t counter ps)
breaks_kept t counter ps =
    breaks_if (adds_up (said_size ps) (payload_bytes ps)) (whole_read t (heap_of counter ps))
    (record { answer = Nothing; after = record { turn = t; begun = ps } }) (breaks_whole t (heap_of counter ps))
    (λ cause e. absurd cc)

breaks_unless : (o : Option ReadCause) (r : Reading) (p : Parts) → Breaks (read_unless o r p)
breaks_unless (Some c) r p = breaks_broken c
breaks_unless None r p = breaks_kept r.turn p.counter (r.begun ++ p ∷ [])

breaks_next : (limit : ℕ) (r : Reading) (bytes : List ℕ) → Breaks (next_read limit r bytes)
breaks_next limit r bytes = breaks_unless (early_cause limit r bytes) r (parts_in bytes)

-- ---- lists of answers

-- a refused answer
refused_by : (answer : Answer) (cause : ReadCause) → cause_in answer ≡ Some cause → answer ≡ Refused cause
refused_by Nothing cause e = absurd cc
refused_by (Head sizes) cause e = absurd cc
refused_by (Heap view) cause e = absurd cc
refused_by Stop cause e = absurd cc
refused_by (Refused c) cause e = let same : c ≡ cause = cc in ap Refused same

-- refused answers have no lines, and come after the first that is refused
none_of_refused : (cause : ReadCause) (n : ℕ) → answers_text (replicate n (Refused cause)) ≡ []
none_of_refused cause zero = refl
none_of_refused cause (suc n) = none_of_refused cause n

or_some : {A : Type 0} (o p : Option A) (x : A) → o ≡ Some x → option_or o p ≡ Some x
or_some (Some y) p x h = h
or_some None p x h = absurd cc

or_none : {A : Type 0} (o p : Option A) → option_or o p ≡ None → (o ≡ None) × (p ≡ None)
or_none (Some y) p h = absurd cc
or_none None p h = (refl, h)

or_of_more : {A : Type 0} (o p q : Option A) (x : A) → option_or o p ≡ Some x → (p ≡ Some x → q ≡ Some x)
    → option_or o q ≡ Some x
or_of_more (Some y) p q x h k = h
or_of_more None p q x h k = k h

-- the first that is refused of some is that of more
pub first_of_more : (place : ℕ) (xs ys : List Answer) (x : RefusedAt) → first_refused place xs ≡ Some x
    → first_refused place (xs ++ ys) ≡ Some x
first_of_more place [] ys x h = absurd cc
first_of_more place (a ∷ xs) ys x h =
    or_of_more (refused_at place (cause_in a)) (first_refused (place + 1) xs) (first_refused (place + 1) (xs ++ ys)) x h
    (λ e. first_of_more (place + 1) xs ys x e)

-- where none is refused before, the next one is the first, or none is
pub first_behind : (place : ℕ) (xs ys : List Answer) → first_refused place xs ≡ None
    → first_refused place (xs ++ ys) ≡ first_refused (place + length xs) ys
first_behind place [] ys h = let e : place ≡ place + 0 = omega arith in ap (λ n. first_refused n ys) e
first_behind place (a ∷ xs) ys h =
    let both = or_none (refused_at place (cause_in a)) (first_refused (place + 1) xs) h in
    let e : place + 1 + length xs ≡ place + length (a ∷ xs) = omega arith in
    ap (λ o. option_or o (first_refused (place + 1) (xs ++ ys))) both.0 ∙ first_behind (place + 1) xs ys both.1 ∙ ap
    (λ n. first_refused n ys) e

or_last : {A : Type 0} (o : Option A) → option_or o None ≡ o
or_last (Some x) = refl
or_last None = refl

pub first_next : (place : ℕ) (xs : List Answer) (a : Answer) → first_refused place xs ≡ None
    → first_refused place (xs ++ a ∷ []) ≡ refused_at (place + length xs) (cause_in a)
first_next place xs a h = first_behind place xs (a ∷ []) h ∙ or_last (refused_at (place + length xs) (cause_in a))

pub answers_next : (xs : List Answer) (a : Answer) → answers_text (xs ++ a ∷ []) ≡ answers_text xs ++ answer_text a
answers_next xs a = flat_map-append answer_text xs (a ∷ []) ∙ ap (λ t. answers_text xs ++ t)
    (append-nil (answer_text a))

-- ---- datagrams behind a refused one

-- those that a broken reading is given have no lines
nothing_more : (limit : ℕ) (r : Reading) (cause : ReadCause) (l : List (List ℕ)) → r.turn ≡ Broken cause
    → answers_text (seen_from limit r l) ≡ []
nothing_more limit r cause l turn =
    ap (λ t. answers_text (seen_from limit (record { turn = t; begun = r.begun }) l)) turn ∙ ap answers_text
    (refused_again limit cause r.begun l) ∙ none_of_refused cause (length l)

rest_by : (limit place : ℕ) (read : Read) (l rest : List (List ℕ)) (x : RefusedAt) (o : Option ReadCause)
    → cause_in read.answer ≡ o → Breaks read
    → option_or (refused_at place o) (first_refused (place + 1) (seen_from limit read.after l)) ≡ Some x
    → (first_refused (place + 1) (seen_from limit read.after l) ≡ Some x
    → answers_text (seen_from limit read.after (l ++ rest)) ≡ answers_text (seen_from limit read.after l))
    → answers_text (seen_from limit read.after (l ++ rest)) ≡ answers_text (seen_from limit read.after l)
rest_by limit place read l rest x None e breaks h goes = goes h
rest_by limit place read l rest x (Some cause) e breaks h goes =
    let turn = breaks cause (refused_by read.answer cause e) in
    nothing_more limit read.after cause (l ++ rest) turn ∙ sym (nothing_more limit read.after cause l turn)

-- behind the first that is refused there are no lines
pub rest_refused : (limit place : ℕ) (r : Reading) (l rest : List (List ℕ)) (x : RefusedAt)
    → first_refused place (seen_from limit r l) ≡ Some x
    → answers_text (seen_from limit r (l ++ rest)) ≡ answers_text (seen_from limit r l)
rest_refused limit place r [] rest x h = absurd cc
rest_refused limit place r (bytes ∷ l) rest x h =
    let read = next_read limit r bytes in
    ap (λ t. answer_text read.answer ++ t)
    (rest_by limit place read l rest x (cause_in read.answer) refl (breaks_next limit r bytes) h
    (λ e. rest_refused limit (place + 1) read.after l rest x e))
