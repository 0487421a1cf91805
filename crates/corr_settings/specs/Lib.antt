pub mod Table
pub mod Values
pub mod Read
pub mod Within
pub mod Plain
pub mod Named
pub mod Unknown
