pub mod NewWorkers
pub mod Runs
pub mod Seats
pub mod Senders
