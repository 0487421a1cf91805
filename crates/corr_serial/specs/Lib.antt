pub mod Sources
pub mod Hearing
pub mod Outputs
pub mod Streams
pub mod Runs
pub mod Rounds
pub mod Going
pub mod Preparing
