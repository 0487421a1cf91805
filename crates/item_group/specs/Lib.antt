pub mod Holding
pub mod Applying
pub mod Counting
pub mod Looking
