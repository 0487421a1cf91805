pub mod SeatLemmas
pub mod LiteralLemmas
pub mod MeetingLemmas
