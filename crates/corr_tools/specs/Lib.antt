pub mod Taking
pub mod Relaying
pub mod Inspecting
pub mod Decoding
pub mod Printing
