pub mod Said
pub mod Keys
pub mod Asked
pub mod Requests
pub mod Reading
pub mod Worked
