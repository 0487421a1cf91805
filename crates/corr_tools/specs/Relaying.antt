-- What a relay sends. This project's own.
use Rattle.std.specs.Prelude.{◌≡◌, ℕ, List, [], ◌∷◌, ◌++◌, length, Option}
use Rattle.corr_site.specs.Outside.{Appended, Rises}
use Rattle.corr_tools.specs.declared.relaying.Relayed.{Relayed}
use Rattle.corr_tools.specs.declared.relaying.Relayed.TheVariants.{Done, SourceFault, SinkFault}
use Rattle.corr_tools.specs.Taking.{TakesAll, TakesFirst}

-- so many strings were sent: all that were to come, up to the limit
pub record SendsAll (gives : Option (List (List ℕ))) (given given_now limit : ℕ) (before now : Option (List (List ℕ)))
    (count : ℕ) : Type 0 where
  pub strings : List (List ℕ)
  pub taken : TakesAll gives given given_now limit strings
  pub sent : Appended before strings now
  pub counted : count ≡ length strings

-- the first that were to come were sent, and the next one was taken and not sent
pub record SendsFirst (gives : Option (List (List ℕ))) (given given_now limit : ℕ)
    (before now : Option (List (List ℕ))) : Type 0 where
  pub strings : List (List ℕ)
  pub unsent : List ℕ
  pub taken : TakesFirst gives given given_now limit (strings ++ unsent ∷ [])
  pub sent : Appended before strings now

-- what was taken and sent, by how the relay ended
abbrev pub Relays : Option (List (List ℕ)) → ℕ → ℕ → ℕ → Option (List (List ℕ)) → Option (List (List ℕ))
    → Relayed → Type 0
Relays gives given given_now limit before now (Done count) = SendsAll gives given given_now limit before now count
Relays gives given given_now limit before now (SourceFault count) =
    SendsAll gives given given_now limit before now count
Relays gives given given_now limit before now SinkFault = SendsFirst gives given given_now limit before now

-- the count of faults rises of what failed, and of nothing else
abbrev pub RelayHasCause : ℕ → ℕ → ℕ → ℕ → Relayed → Type 0
RelayHasCause source source_now sink sink_now (Done count) = (source_now ≡ source) × (sink_now ≡ sink)
RelayHasCause source source_now sink sink_now (SourceFault count) = Rises source source_now × (sink_now ≡ sink)
RelayHasCause source source_now sink sink_now SinkFault = (source_now ≡ source) × Rises sink sink_now
