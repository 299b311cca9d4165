pub mod Asked
pub mod Reading
pub mod Requests
pub mod WorkedQuery
