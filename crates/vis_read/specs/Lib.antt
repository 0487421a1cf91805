pub mod Readings
pub mod Examples
pub mod Outputs
pub mod Standing
pub mod Views
pub mod Steps
pub mod Describing
pub mod Endings
