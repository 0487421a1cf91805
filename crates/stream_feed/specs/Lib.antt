pub mod Counting
pub mod Opening
pub mod Judging
pub mod Feeding
pub mod Keeping
