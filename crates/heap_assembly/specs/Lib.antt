pub mod Heaps
pub mod Marks
pub mod LiveStates
pub mod Inside
pub mod Steps
