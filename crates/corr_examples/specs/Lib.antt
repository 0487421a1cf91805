pub mod Fresh
pub mod Literals
