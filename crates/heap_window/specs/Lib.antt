pub mod WindowStates
pub mod Inside
pub mod Steps
pub mod Takes
