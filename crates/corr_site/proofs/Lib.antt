pub mod SourceLemmas
pub mod CutLemmas
pub mod Laws
