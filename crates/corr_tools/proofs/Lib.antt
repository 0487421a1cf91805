pub mod TakenLemmas
pub mod TextLemmas
pub mod PacketLemmas
pub mod RelayLemmas
pub mod InspectLemmas
pub mod ReadLemmas
pub mod DecodeLemmas
