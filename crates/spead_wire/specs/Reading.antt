-- What the item pointers of a packet and the bytes behind them say together, where nothing is missing.
-- SPEAD protocol definition, version 4: item pointers, in flavour SPEAD-64-48.
use Rattle.std.specs.Prelude.{◌≡◌, ℕ, List, length, filter, Some, None, unwrap_or, Result, Ok, Err}
use Rattle.corr_model.specs.declared.pointer.Pointer.{Pointer}
use Rattle.corr_model.specs.declared.pointer.Refusal.{Refusal}
use Rattle.corr_model.specs.Packets.{Parts, last_value, is_own, said_refusal}

-- the packet with these item pointers and this payload
abbrev pub parts_of : List Pointer → List ℕ → Parts
parts_of ps payload = record {
  counter = unwrap_or (last_value 1 ps) 0;
  size = last_value 2 ps;
  offset = unwrap_or (last_value 3 ps) 0;
  pointers = filter is_own ps;
  payload = payload;
}

-- the answer is that packet where no row on the special pointers applies, and else the first that does
abbrev pub IsReading : List Pointer → List ℕ → Result Parts Refusal → Type 0
IsReading ps payload (Ok p) = (said_refusal ps (length payload) ≡ None) × (p ≡ parts_of ps payload)
IsReading ps payload (Err e) = said_refusal ps (length payload) ≡ Some e
