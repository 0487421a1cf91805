pub mod ColumnLemmas
pub mod OpenLemmas
pub mod JudgeLemmas
pub mod AnswerLemmas
pub mod FeedLemmas
pub mod StandLemmas
pub mod PromiseLemmas
pub mod KeepLemmas
