pub mod Log
pub mod Ends
pub mod LogFile
pub mod Finding
pub mod KeptFile
