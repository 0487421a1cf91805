pub mod FlagLemmas
pub mod PlainLemmas
