pub mod Parts
pub mod Standing
pub mod Changes
pub mod Sends
pub mod Cores
pub mod New
