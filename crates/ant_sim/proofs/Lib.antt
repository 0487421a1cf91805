pub mod MixLemmas
pub mod FateLemmas
pub mod CutLemmas
pub mod BlockLemmas
pub mod SmallLemmas
pub mod RestLemmas
pub mod TailLemmas
pub mod LengthLemmas
