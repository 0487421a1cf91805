pub mod Noise
pub mod Fates
pub mod Simulated
pub mod Sending
pub mod Blocks
pub mod Examples
