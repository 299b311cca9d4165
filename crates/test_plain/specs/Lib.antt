pub mod Fits
pub mod Order
pub mod Running
pub mod Taken
