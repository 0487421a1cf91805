pub mod StepLemmas
pub mod TakeLemmas
