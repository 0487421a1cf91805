pub mod RowLemmas
pub mod ValueLemmas
pub mod WithinLemmas
pub mod EdgeLemmas
pub mod CutLemmas
pub mod UnknownLemmas
