pub mod AllItems
pub mod Filled
pub mod Valid
pub mod Written
pub mod Numbers
