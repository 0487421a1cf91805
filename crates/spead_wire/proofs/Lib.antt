pub mod DecodeLemmas
pub mod FindLemmas
pub mod NumberLemmas
pub mod WireLemmas
pub mod WriteLemmas
