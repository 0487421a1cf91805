pub mod Marks
pub mod Sending
pub mod Emitters
pub mod Filling
pub mod Heaps
pub mod Senders
