pub mod Dispatches
pub mod Holding
pub mod Receivers
pub mod Workers
