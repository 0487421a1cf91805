pub mod Sets
pub mod Parts
