pub mod Lines
pub mod Texts
pub mod Summaries
pub mod Inspected
pub mod Decoded
