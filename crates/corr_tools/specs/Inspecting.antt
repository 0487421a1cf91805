-- What `inspect` prints. This project's own.
use Rattle.std.specs.Prelude.{ℕ, ◌+◌, List, [], ◌∷◌, ◌++◌, length, Option, Some, None, Result, Ok, Err}
use Rattle.std.specs.List.{flat_map}
use Rattle.corr_model.specs.declared.pointer.Refusal.{Refusal}
use Rattle.corr_model.specs.Packets.{Parts, parts_in, refusal_of}
use Rattle.corr_site.specs.Outside.{Writes}
use Rattle.corr_report.specs.declared.status.StatusLine.TheVariants.{SourceFault}
use Rattle.corr_report.specs.Inspected.{packet_text, pointer_text, refusal_text, datagrams_text}
use Rattle.corr_report.specs.Texts.{status_text}
use Rattle.corr_tools.specs.declared.inspecting.Inspected.{Inspected}
use Rattle.corr_tools.specs.Taking.{TakesAll, string_limit}

-- the lines on a packet: its own, and one for each pointer of the heap
abbrev pub parts_text : ℕ → Parts → List ℕ
parts_text place p = packet_text place p ++ flat_map pointer_text p.pointers

-- the lines on a datagram, which is a packet or refused
abbrev pub datagram_by : ℕ → Parts → Option Refusal → List ℕ
datagram_by place p None = parts_text place p
datagram_by place p (Some refusal) = refusal_text place refusal

-- the lines on a datagram
abbrev pub datagram_text : ℕ → List ℕ → List ℕ
datagram_text place bytes = datagram_by place (parts_in bytes) (refusal_of bytes)

-- the lines on datagrams, of which the first has this number
abbrev pub datagrams_from : ℕ → List (List ℕ) → List ℕ
datagrams_from place [] = []
datagrams_from place (bytes ∷ rest) = datagram_text place bytes ++ datagrams_from (place + 1) rest

-- the line on a source that failed, or nothing
abbrev pub fault_text : {T E : Type 0} → Result T E → List ℕ
fault_text (Ok x) = []
fault_text (Err e) = status_text (SourceFault 0)

-- all lines on these datagrams, and on their source
abbrev pub inspect_text : {T E : Type 0} → List (List ℕ) → Result T E → List ℕ
inspect_text strings source = datagrams_from 0 strings ++ (datagrams_text (length strings) ++ fault_text source)

-- all datagrams that were to come were taken, and the lines on them are written, or a front where a write failed
pub record Inspects (gives : Option (List (List ℕ))) (given given_now : ℕ) (before now : Option (List ℕ))
    (result : Inspected) : Type 0 where
  pub taken : List (List ℕ)
  pub takes : TakesAll gives given given_now string_limit taken
  pub written : Writes before now result.print (inspect_text taken result.source)
