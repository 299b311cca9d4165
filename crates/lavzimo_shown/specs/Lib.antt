pub mod Showing
pub mod NoRows
