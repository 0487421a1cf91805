-- Settings none of which is refused by itself are in their ranges.
use Rattle.std.proofs.Common.{◌≡◌, ◌<◌, ◌≤◌, ℕ, ◌-◌, ◌%◌, ◌^◌, pos, negsuc, max, Bool, true, false, ◌&&◌, cond, List, [], ◌∷◌, length, Option, Some, None, option_and_then, unwrap_or, refl, arith, le_trans, get_or, option_map, nat_le, ◌==◌}
use Rattle.std.proofs.lemmas.Bool.{leb-true, eqb-true}
use Rattle.std.specs.List.{AllByRecursion}
use Rattle.toml.specs.Data.{Data, string, integer, float, boolean, datetime, array, table, Members, as_integer, as_str}
use Rattle.corr_model.specs.Plans.{IsWithin}
use Rattle.corr_settings.specs.declared.key.Key.{Key}
use Rattle.corr_settings.specs.declared.key.Key.TheVariants.{Antennas, Channels, Spectra, Heaps, Step, Start, Accumulations, Lag, Leap, Window, Slots, Workers, Packet, HeapLimit, PacketLimit, Inputs, Output}
use Rattle.corr_settings.specs.declared.key.Rule.TheVariants.{Integer, Eights, Strings, OneString}
use Rattle.corr_settings.specs.declared.key.Need.TheVariants.{Required, Optional}
use Rattle.corr_settings.specs.declared.refusal.SetRefusal.TheVariants.{Range}
use Rattle.corr_settings.specs.declared.rows.Test.TheVariants.{IsGiven, HasKind, IsInRange}
use Rattle.corr_settings.specs.Table.{Row, settings_rows}
use Rattle.corr_settings.specs.Values.{first_of, bad_length, number_or, string_of, values_in, value_at, value_refusal, row_refusal, rows_refusal, default_limit, out_of, out_of_eights}
use Rattle.corr_settings.specs.declared.plain.PlainNumbers.{PlainNumbers}
use Rattle.corr_settings.specs.Plain.{HasNumberRanges, number_refusal, numbers_refusal, printed}
use Rattle.corr_settings.specs.Within.{AreWithin}
use Rattle.corr_settings.proofs.RowLemmas.{neither, first_of_none}

-- a value that passes every test of its row
pub record Passes (row : Row) (o : Option Data) : Type 0 where
  pub given : value_refusal IsGiven row o ≡ None
  pub of_kind : value_refusal HasKind row o ≡ None
  pub in_range : value_refusal IsInRange row o ≡ None

-- two tests that passed
both : {E : Type 0} (a b : Bool) (e : E) → cond (a && b) None (Some e) ≡ None → (a ≡ true) × (b ≡ true)
both true true e h = (refl, refl)
both true false e h = absurd cc
both false b e h = absurd cc

-- nothing that is mapped
nothing : {A B : Type 0} (f : A → B) (o : Option A) → option_map f o ≡ None → o ≡ None
nothing f None h = refl
nothing f (Some x) h = absurd cc

-- a number that passes both tests is in the range
between : (least most n : ℕ) → nat_le least n ≡ true → nat_le n most ≡ true → IsWithin n least most
between least most n low high =
    record { least_met = omega (arith, leb-true least n low); most_met = omega (arith, leb-true n most high) }

-- an integer that is not out of the range
in_range : (least most n : ℕ) → out_of least most (pos n) ≡ None → IsWithin n least most
in_range least most n h =
    let (low, high) = both (nat_le least n) (nat_le n most) (pos n) h in
    between least most n low high

-- an integer that is not out of the range is a multiple of 8
in_eights : (least most n : ℕ) → out_of_eights least most (pos n) ≡ None → IsWithin n least most × (n % 8 ≡ 0)
in_eights least most n h =
    let (range, eights) = both (nat_le least n && nat_le n most) (n % 8 == 0) (pos n) h in
    let (low, high) = both (nat_le least n) (nat_le n most) (pos n) (rw range refl) in
    (between least most n low high, eqb-true (n % 8) 0 eights)

-- a required number
needed : (key : Key) (least most : ℕ) (o : Option Data) → Passes (key, (Integer least most), Required) o
    → IsWithin (number_or (option_and_then as_integer o) 0) least most
needed key least most None p = let h = p.given in absurd cc
needed key least most (Some (integer (pos n))) p = in_range least most n (nothing (λ z. Range key z) _ p.in_range)
needed key least most (Some (integer (negsuc n))) p =
    let h = nothing (λ z. Range key z) (Some (negsuc n)) p.in_range in absurd cc
needed key least most (Some (string s)) p = let h = p.of_kind in absurd cc
needed key least most (Some (float s)) p = let h = p.of_kind in absurd cc
needed key least most (Some (boolean s)) p = let h = p.of_kind in absurd cc
needed key least most (Some (datetime s)) p = let h = p.of_kind in absurd cc
needed key least most (Some (array s)) p = let h = p.of_kind in absurd cc
needed key least most (Some (table s)) p = let h = p.of_kind in absurd cc

-- a number with a default that is in a range around the row's
given_or : (key : Key) (least most default top : ℕ) (o : Option Data) → IsWithin default least top → most ≤ top
    → Passes (key, (Integer least most), Optional) o
    → IsWithin (number_or (option_and_then as_integer o) default) least top
given_or key least most default top None within le p = within
given_or key least most default top (Some (integer (pos n))) within le p =
    let is = in_range least most n (nothing (λ z. Range key z) _ p.in_range) in
    record { least_met = is.least_met; most_met = le_trans is.most_met le }
given_or key least most default top (Some (integer (negsuc n))) within le p =
    let h = nothing (λ z. Range key z) (Some (negsuc n)) p.in_range in absurd cc
given_or key least most default top (Some (string s)) within le p = let h = p.of_kind in absurd cc
given_or key least most default top (Some (float s)) within le p = let h = p.of_kind in absurd cc
given_or key least most default top (Some (boolean s)) within le p = let h = p.of_kind in absurd cc
given_or key least most default top (Some (datetime s)) within le p = let h = p.of_kind in absurd cc
given_or key least most default top (Some (array s)) within le p = let h = p.of_kind in absurd cc
given_or key least most default top (Some (table s)) within le p = let h = p.of_kind in absurd cc

-- the same of a multiple of 8
eights_or : (key : Key) (least most default : ℕ) (o : Option Data) → IsWithin default least most → default % 8 ≡ 0
    → Passes (key, (Eights least most), Optional) o
    → IsWithin (number_or (option_and_then as_integer o) default) least most
    × (number_or (option_and_then as_integer o) default % 8 ≡ 0)
eights_or key least most default None within even p = (within, even)
eights_or key least most default (Some (integer (pos n))) within even p =
    in_eights least most n (nothing (λ z. Range key z) _ p.in_range)
eights_or key least most default (Some (integer (negsuc n))) within even p =
    let h = nothing (λ z. Range key z) (Some (negsuc n)) p.in_range in absurd cc
eights_or key least most default (Some (string s)) within even p = let h = p.of_kind in absurd cc
eights_or key least most default (Some (float s)) within even p = let h = p.of_kind in absurd cc
eights_or key least most default (Some (boolean s)) within even p = let h = p.of_kind in absurd cc
eights_or key least most default (Some (datetime s)) within even p = let h = p.of_kind in absurd cc
eights_or key least most default (Some (array s)) within even p = let h = p.of_kind in absurd cc
eights_or key least most default (Some (table s)) within even p = let h = p.of_kind in absurd cc

-- a string whose length is not bad
short : (d : Data) → bad_length d ≡ None → length (string_of d) ≤ 4096
short (string s) h =
    let (low, high) = both (nat_le 1 (length s)) (nat_le (length s) 4096) (pos (length s)) h in
    leb-true (length s) 4096 high
short (integer z) h = omega arith
short (float z) h = omega arith
short (boolean z) h = omega arith
short (datetime z) h = omega arith
short (array z) h = omega arith
short (table z) h = omega arith

-- a required string
string_short : (key : Key) (o : Option Data) → Passes (key, OneString, Required) o
    → length (unwrap_or (option_and_then as_str o) []) ≤ 4096
string_short key None p = omega arith
string_short key (Some (string s)) p = short (string s) (nothing (λ z. Range key z) _ p.in_range)
string_short key (Some (integer s)) p = omega arith
string_short key (Some (float s)) p = omega arith
string_short key (Some (boolean s)) p = omega arith
string_short key (Some (datetime s)) p = omega arith
string_short key (Some (array s)) p = omega arith
string_short key (Some (table s)) p = omega arith

-- strings whose lengths are not bad
all_short : (ds : List Data) → first_of bad_length ds ≡ None → AllByRecursion (λ d. length (string_of d) ≤ 4096) ds
all_short [] h = tt
all_short (d ∷ ds) h =
    let (here, there) = neither (bad_length d) (first_of bad_length ds) h in (short d here, all_short ds there)

-- required strings
strings_short : (key : Key) (o : Option Data) → Passes (key, Strings, Required) o
    → AllByRecursion (λ d. length (string_of d) ≤ 4096) (unwrap_or (option_map values_in o) [])
strings_short key None p = tt
strings_short key (Some d) p = all_short (values_in d) (nothing (λ z. Range key z) _ p.in_range)

-- every row passes
passes : (ms : Members) (i : ℕ) (default : Row) → i < length settings_rows → rows_refusal ms ≡ None
    → Passes (get_or settings_rows i default) (value_at ms (get_or settings_rows i default).0)
passes ms i default within h =
    let (given, rest) = neither (first_of (row_refusal IsGiven ms) settings_rows) _ h in
    let (kinds, ranges) =
    neither (first_of (row_refusal HasKind ms) settings_rows)
    (first_of (row_refusal IsInRange ms) settings_rows) rest in
    record {
      given = first_of_none (row_refusal IsGiven ms) settings_rows i default within given;
      of_kind = first_of_none (row_refusal HasKind ms) settings_rows i default within kinds;
      in_range = first_of_none (row_refusal IsInRange ms) settings_rows i default within ranges;
    }

-- settings none of which is refused by itself are in their ranges
pub within : (ms : Members) → rows_refusal ms ≡ None → AreWithin ms
within ms h =
    let default : Row = (Antennas, OneString, Required) in
    record {
      antennas = needed Antennas 1 64 _ (passes ms 0 default (omega arith) h);
      channels = needed Channels 1 4096 _ (passes ms 1 default (omega arith) h);
      spectra = needed Spectra 1 4096 _ (passes ms 2 default (omega arith) h);
      heaps = needed Heaps 1 4096 _ (passes ms 3 default (omega arith) h);
      step = needed Step 1 (2 ^ 40) _ (passes ms 4 default (omega arith) h);
      start = given_or Start 0 (2 ^ 48 - 1) 0 (2 ^ 48 - 1) _
          (record { least_met = omega arith; most_met = omega arith }) (omega arith)
          (passes ms 5 default (omega arith) h);
      accumulations = needed Accumulations 1 1048576 _ (passes ms 6 default (omega arith) h);
      lag = given_or Lag 1 16 2 16 _ (record { least_met = omega arith; most_met = omega arith }) (omega arith)
          (passes ms 7 default (omega arith) h);
      leap = given_or Leap 0 (2 ^ 48 - 1) 0 (2 ^ 48 - 1) _ (record { least_met = omega arith; most_met = omega arith })
          (omega arith) (passes ms 8 default (omega arith) h);
      window = given_or Window 1 64 8 64 _ (record { least_met = omega arith; most_met = omega arith }) (omega arith)
          (passes ms 9 default (omega arith) h);
      slots = given_or Slots 1 64 4 64 _ (record { least_met = omega arith; most_met = omega arith }) (omega arith)
          (passes ms 10 default (omega arith) h);
      workers = given_or Workers 0 64 1 64 _ (record { least_met = omega arith; most_met = omega arith }) (omega arith)
          (passes ms 11 default (omega arith) h);
      packet = (eights_or Packet 64 8192 1024 _ (record { least_met = omega arith; most_met = omega arith }) refl
          (passes ms 12 default (omega arith) h)).0;
      packet_in_eights = (eights_or Packet 64 8192 1024 _ (record { least_met = omega arith; most_met = omega arith })
          refl (passes ms 12 default (omega arith) h)).1;
      heap_limit = given_or HeapLimit 1 2097152 (default_limit ms) (max 2097152 (default_limit ms)) _
          (record { least_met = omega arith; most_met = omega arith }) (omega arith)
          (passes ms 13 default (omega arith) h);
      packet_limit = given_or PacketLimit 1 (2 ^ 40) (2 ^ 40) (2 ^ 40) _
          (record { least_met = omega arith; most_met = omega arith }) (omega arith)
          (passes ms 14 default (omega arith) h);
      inputs = strings_short Inputs _ (passes ms 16 default (omega arith) h);
      output = string_short Output _ (passes ms 17 default (omega arith) h);
    }

-- a number that is in its range as it is printed is in its range
printed_within : (key : Key) (least most n : ℕ) → most < 2 ^ 63 - 1
    → option_map (λ z. Range key z) (out_of least most (pos (printed n))) ≡ None → IsWithin n least most
printed_within key least most n low h =
    let is = in_range least most (printed n) (nothing (λ z. Range key z) _ h) in
    record { least_met = omega (arith, is.least_met); most_met = omega (arith, is.most_met, low) }

-- numbers none of which is refused by itself are in their ranges
pub numbers_within : (n : PlainNumbers) → numbers_refusal n ≡ None → HasNumberRanges n
numbers_within n h =
    let default : Row = (Antennas, OneString, Required) in
    record {
      antennas = printed_within Antennas 1 64 n.antennas (omega arith)
          (first_of_none (number_refusal n) settings_rows 0 default (omega arith) h);
      channels = printed_within Channels 1 4096 n.channels (omega arith)
          (first_of_none (number_refusal n) settings_rows 1 default (omega arith) h);
      spectra = printed_within Spectra 1 4096 n.spectra (omega arith)
          (first_of_none (number_refusal n) settings_rows 2 default (omega arith) h);
      heaps = printed_within Heaps 1 4096 n.heaps (omega arith)
          (first_of_none (number_refusal n) settings_rows 3 default (omega arith) h);
      accumulations = printed_within Accumulations 1 1048576 n.accumulations (omega arith)
          (first_of_none (number_refusal n) settings_rows 6 default (omega arith) h);
    }
