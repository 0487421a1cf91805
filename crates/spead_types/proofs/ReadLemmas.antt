-- What is read of a descriptor's packet is what its definition says.
use Rattle.std.proofs.Common.{◌≡◌, ℕ, List, length, take, Option, Some, None, is_none, if◌then◌else◌, unwrap_or, Result, Ok, Err, sym, ap, ap₂, ◌∙◌}
use Rattle.corr_model.specs.declared.pointer.Refusal.{Refusal}
use Rattle.corr_model.specs.declared.item.ItemType.{ItemType}
use Rattle.corr_model.specs.declared.item.Dim.{Dim}
use Rattle.corr_model.specs.declared.item.DescRefusal.{DescRefusal}
use Rattle.corr_model.specs.Packets.{Parts, parts_in, packet_in, refusal_of}
use Rattle.corr_model.specs.Items.{number_item}
use Rattle.corr_model.specs.Descriptors.{DescribedItem, bytes_of, form_refusal, or_refused, own_group, read_group, read_unless, described_in, shape_of, types_of}
use Rattle.spead_types.specs.AllItems.{all_group, all_number}
use Rattle.spead_types.proofs.OwnLemmas.{number_same}

abbrev pub item_of : ℕ → List Dim → List ItemType → List ℕ → DescribedItem
item_of id shape types name = record { id = id; shape = shape; types = types; name = name }

abbrev pub read_by : Option ℕ → List ℕ → List ℕ → List ℕ → Result DescribedItem DescRefusal
read_by number shape types name =
    or_refused (form_refusal number (length shape) (length types) (types_of types))
    (item_of (unwrap_or number 0) (shape_of shape) (types_of types) (take 64 name))

-- what was found of a packet, where it stands for the items of its definition
pub record IsFound (p : Parts) (number : Option ℕ) (shape types : List ℕ) : Type 0 where
  pub number_is : number ≡ all_number (all_group p) 0x14
  pub shape_is : shape ≡ bytes_of (own_group p) 0x12
  pub types_is : types ≡ bytes_of (own_group p) 0x13

read_same : (p : Parts) (number : Option ℕ) (shape types : List ℕ) → IsFound p number shape types
    → read_by number shape types (bytes_of (own_group p) 0x10) ≡ read_group (own_group p)
read_same p number shape types found =
    ap (λ n. read_by n shape types (bytes_of (own_group p) 0x10)) (found.number_is ∙ sym (number_same p 0x14))
    ∙ ap₂ (λ s t. read_by (number_item (own_group p) 0x14) s t (bytes_of (own_group p) 0x10)) found.shape_is
    found.types_is

-- a packet that is refused by its form
pub group_refused : (p : Parts) (number : Option ℕ) (shape types : List ℕ) (e : DescRefusal)
    → IsFound p number shape types → form_refusal number (length shape) (length types) (types_of types) ≡ Some e
    → Err e ≡ read_group (own_group p)
group_refused p number shape types e found refused =
    ap (λ r. or_refused r
    (item_of (unwrap_or number 0) (shape_of shape) (types_of types) (take 64 (bytes_of (own_group p) 0x10))))
    (sym refused) ∙ read_same p number shape types found

-- a packet that says an item
pub group_read : (p : Parts) (number : Option ℕ) (shape types name : List ℕ) (id : ℕ) (dims : List Dim)
    (entries : List ItemType) (letters : List ℕ) → IsFound p number shape types
    → form_refusal number (length shape) (length types) (types_of types) ≡ None → id ≡ unwrap_or number 0
    → dims ≡ shape_of shape → entries ≡ types_of types → letters ≡ take 64 name → name ≡ bytes_of (own_group p) 0x10
    → Ok (item_of id dims entries letters) ≡ read_group (own_group p)
group_read p number shape types name id dims entries letters found passed id_is dims_is entries_is letters_is name_is =
    ap₂ (λ (n : ℕ) (ds : List Dim). Ok (item_of n ds entries letters)) id_is dims_is
    ∙ ap₂ (λ (ts : List ItemType) (m : List ℕ). Ok (item_of (unwrap_or number 0) (shape_of shape) ts m)) entries_is
    (letters_is ∙ ap (take 64) name_is)
    ∙ ap (λ r. or_refused r
    (item_of (unwrap_or number 0) (shape_of shape) (types_of types) (take 64 (bytes_of (own_group p) 0x10))))
    (sym passed)
    ∙ read_same p number shape types found

read_found_by : (o : Option Refusal) (bytes : List ℕ) (p : Parts) (r : Result DescribedItem DescRefusal)
    → (if is_none o then Some (parts_in bytes) else None) ≡ Some p → r ≡ read_group (own_group p)
    → r ≡ read_unless o bytes
read_found_by None bytes p r was read =
    let same : parts_in bytes ≡ p = cc in read ∙ ap (λ q. read_group (own_group q)) (sym same)
read_found_by (Some e) bytes p r was read = absurd cc

-- bytes that are a packet
pub read_found : (bytes : List ℕ) (p : Parts) (r : Result DescribedItem DescRefusal) → packet_in bytes ≡ Some p
    → r ≡ read_group (own_group p) → r ≡ described_in bytes
read_found bytes p r was read = read_found_by (refusal_of bytes) bytes p r was read
