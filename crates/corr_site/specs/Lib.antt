pub mod Outside
pub mod Places
pub mod Memory
