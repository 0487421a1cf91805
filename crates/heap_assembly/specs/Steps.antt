-- One packet more, by the numbers of the state alone. This project's own.
use Rattle.std.specs.Prelude.{◌≡◌, ◌+◌, max, Bool, true, false, ◌||◌, nat_lt, if◌then◌else◌, List, [], ◌∷◌, ◌++◌, length, take, drop, fold, Option, Some, None}
use Rattle.std.specs.Option.{option_or}
use Rattle.std.specs.List.{list_any}
use Rattle.corr_model.specs.declared.pointer.Pointer.{Pointer}
use Rattle.corr_model.specs.declared.heap.DropCause.{DropCause}
use Rattle.corr_model.specs.declared.heap.DropCause.TheVariants.{SizeDiffers, PastSize, Overlap, TooManyPointers}
use Rattle.corr_model.specs.Packets.{Parts}
use Rattle.corr_model.specs.Windows.{end_of}
use Rattle.corr_model.specs.Assembly.{are_same, sizes_differ, is_past, adds_up}
use Rattle.heap_assembly.specs.declared.added.Added.{Added}
use Rattle.heap_assembly.specs.declared.added.Added.TheVariants.{Kept, Whole, Dropped}
use Rattle.heap_assembly.specs.Marks.{mark_at, any_marked, Marks}
use Rattle.heap_assembly.specs.LiveStates.{LiveState}

-- the pointer behind those that stand there, unless one of them is the same
abbrev pub with_pointer : List Pointer → Pointer → List Pointer
with_pointer before p = if list_any (are_same p) before then before else before ++ p ∷ []

-- each of these pointers in turn behind those that stand there, unless one of them is the same
abbrev pub with_pointers : List Pointer → List Pointer → List Pointer
with_pointers before ps = fold with_pointer before ps

-- the first cause by sizes and bytes, if one applies
abbrev pub early_cause : LiveState → Parts → Option DropCause
early_cause e p =
    if sizes_differ e.size p.size then Some SizeDiffers
    else (if is_past e.size (end_of p) || is_past p.size e.ending then Some PastSize
    else (if any_marked (mark_at e.words) p.offset (length p.payload) then Some Overlap
    else None))

-- the cause by the number of pointers, if it applies
abbrev pub pointer_cause : LiveState → Parts → Option DropCause
pointer_cause e p = if nat_lt 64 (length (with_pointers e.pointers p.pointers)) then Some TooManyPointers else None

-- the state after the packet is kept, field by field
pub record Keeps (old : LiveState) (p : Parts) (new : LiveState) : Type 0 where
  pub counter : new.counter ≡ old.counter
  pub limit : new.limit ≡ old.limit
  pub size : new.size ≡ option_or old.size p.size
  pub ending : new.ending ≡ max old.ending (end_of p)
  pub have : new.have ≡ old.have + length p.payload
  pub words : Marks (mark_at old.words) (mark_at new.words) p.offset (end_of p)
  pub bytes : new.bytes ≡ take p.offset old.bytes ++ (p.payload ++ drop (end_of p) old.bytes)
  pub whole : new.whole ≡ adds_up new.size new.have

-- the packet has no cause and is kept
pub record Takes (old : LiveState) (p : Parts) (new : LiveState) (whole : Bool) : Type 0 where
  pub early : early_cause old p ≡ None
  pub few : pointer_cause old p ≡ None
  pub pointers : new.pointers ≡ with_pointers old.pointers p.pointers
  pub keeps : Keeps old p new
  pub is : new.whole ≡ whole

-- the packet is dropped for the first cause and changes nothing, or kept
abbrev pub Steps : LiveState → Parts → LiveState → Added → Type 0
Steps old p new Kept = Takes old p new false
Steps old p new Whole = Takes old p new true
Steps old p new (Dropped cause) = (new ≡ old) × (option_or (early_cause old p) (pointer_cause old p) ≡ Some cause)
