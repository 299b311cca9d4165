pub mod Extents
pub mod Lists
pub mod Refusals
pub mod Taken
