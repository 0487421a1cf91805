pub mod ConcludeLemmas
pub mod OutputLemmas
pub mod ReceiveLemmas
pub mod RunLemmas
pub mod SeatLemmas
pub mod SentLemmas
pub mod SharedLemmas
pub mod TakenLemmas
