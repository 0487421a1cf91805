pub mod TableLemmas
pub mod StandingLemmas
pub mod ApplyLemmas
