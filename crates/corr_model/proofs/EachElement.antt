-- What holds of each element of a list, through the words on lists.
use Rattle.std.proofs.Common.{◌≡◌, Bool, true, false, if◌then◌else◌, List, [], ◌∷◌, ◌++◌, Option, Some, None, IfSome, All, map, find, fold, filter_map, option_and_then, option_map, get_or, refl}
use Rattle.std.specs.List.{cons_option}
use Rattle.std.proofs.lemmas.List.Elements.{All-cons, All-head, All-map, All-nil, All-push, All-tail}
use Rattle.corr_model.specs.Lists.{in_turn, fronts, through_first}

pub if_some : {X : Type 0} (Q : X → Type 0) (b : Bool) (x : X) → Q x → IfSome (if b then Some x else None) Q
if_some Q true x h = h
if_some Q false x h = tt

pub if_option : {X : Type 0} (Q : X → Type 0) (b : Bool) (o : Option X) → IfSome o Q → IfSome (if b then o else None) Q
if_option Q true o h = h
if_option Q false o h = tt

pub unless_option : {X : Type 0} (Q : X → Type 0) (b : Bool) (o : Option X) → IfSome o Q
    → IfSome (if b then None else o) Q
unless_option Q true o h = tt
unless_option Q false o h = h

pub and_then : {X Y : Type 0} (P : X → Type 0) (Q : Y → Type 0) (f : X → Option Y) → ((x : X) → P x → IfSome (f x) Q)
    → (o : Option X) → IfSome o P → IfSome (option_and_then f o) Q
and_then P Q f each None h = tt
and_then P Q f each (Some x) h = each x h

pub mapped : {X Y : Type 0} (P : X → Type 0) (Q : Y → Type 0) (f : X → Y) → ((x : X) → P x → Q (f x)) → (o : Option X)
    → IfSome o P → IfSome (option_map f o) Q
mapped P Q f each None h = tt
mapped P Q f each (Some x) h = each x h

pub onto : {Y : Type 0} (Q : Y → Type 0) (o : Option Y) (ys : List Y) → IfSome o Q → All Q ys → All Q (cons_option o ys)
onto Q None ys h rest = rest
onto Q (Some y) ys h rest = All-cons Q y ys h rest

pub either_found : {X : Type 0} (P : X → Type 0) (b : Bool) (x : X) (rest : Option X) → P x → IfSome rest P
    → IfSome (if b then Some x else rest) P
either_found P true x rest h later = h
either_found P false x rest h later = later

pub either_some : {X : Type 0} (P : X → Type 0) (b : Bool) (x y : X) → P x → P y
    → IfSome (if b then Some x else Some y) P
either_some P true x y h k = h
either_some P false x y h k = k

pub or_empty : {X : Type 0} (P : X → Type 0) (b : Bool) (xs : List X) → All P xs → All P (if b then [] else xs)
or_empty P true xs h = All-nil P
or_empty P false xs h = h

pub all_filter_map : {X Y : Type 0} (P : X → Type 0) (Q : Y → Type 0) (f : X → Option Y)
    → ((x : X) → P x → IfSome (f x) Q) → (xs : List X) → All P xs → All Q (filter_map f xs)
all_filter_map P Q f each [] h = All-nil Q
all_filter_map P Q f each (x ∷ xs) h =
    onto Q (f x) (filter_map f xs) (each x (All-head P x xs h)) (all_filter_map P Q f each xs (All-tail P x xs h))

-- each by the rule, after those that are there
pub turns : {X Y : Type 0} (P : X → Type 0) (Q : Y → Type 0) (rule : List Y → X → Y)
    → ((before : List Y) (x : X) → P x → Q (rule before x)) → (before : List Y) (xs : List X)
    → All Q before → All P xs → All Q (fold (λ ys x. ys ++ rule ys x ∷ []) before xs)
turns P Q rule each before [] there h = there
turns P Q rule each before (x ∷ xs) there h =
    turns P Q rule each (before ++ rule before x ∷ []) xs
    (All-push Q before (rule before x) there (each before x (All-head P x xs h))) (All-tail P x xs h)

pub all_in_turn : {X Y : Type 0} (P : X → Type 0) (Q : Y → Type 0) (rule : List Y → X → Y)
    → ((before : List Y) (x : X) → P x → Q (rule before x)) → (xs : List X)
    → All P xs → All Q (in_turn rule xs)
all_in_turn P Q rule each xs h = turns P Q rule each [] xs (All-nil Q) h

pub all_fronts : {X : Type 0} (P : X → Type 0) (xs : List X) → All P xs → All (All P) (fronts xs)
all_fronts P [] h = All-nil (All P)
all_fronts P (x ∷ xs) h =
    let here = All-head P x xs h in
    let rest = all_fronts P xs (All-tail P x xs h) in
    All-cons (All P) (x ∷ []) (map (λ front. x ∷ front) (fronts xs)) (All-cons P x [] here (All-nil P))
    (All-map (All P) (λ front. x ∷ front) (fronts xs)
    (λ k d inside. All-cons P x (get_or (fronts xs) k d) here (rest k d inside)))

pub all_find : {X : Type 0} (P : X → Type 0) (test : X → Bool) (xs : List X) → All P xs → IfSome (find test xs) P
all_find P test [] h = tt
all_find P test (x ∷ xs) h =
    either_found P (test x) x (find test xs) (All-head P x xs h) (all_find P test xs (All-tail P x xs h))

pub all_through : {X : Type 0} (P : X → Type 0) (test : X → Bool) (xs : List X) → All P xs
    → All P (through_first test xs)
all_through P test [] h = All-nil P
all_through P test (x ∷ xs) h =
    All-cons P x (if test x then [] else through_first test xs) (All-head P x xs h)
    (or_empty P (test x) (through_first test xs) (all_through P test xs (All-tail P x xs h)))

found_by : {X : Type 0} (test : X → Bool) (x : X) (t : Bool) (later : Option X) → test x ≡ t
    → IfSome later (λ y. test y ≡ true) → IfSome (if t then Some x else later) (λ y. test y ≡ true)
found_by test x true later is rest = is
found_by test x false later is rest = rest

-- what is found passes the test
pub find_passes : {X : Type 0} (test : X → Bool) (xs : List X) → IfSome (find test xs) (λ x. test x ≡ true)
find_passes test [] = tt
find_passes test (x ∷ xs) = found_by test x (test x) (find test xs) refl (find_passes test xs)
