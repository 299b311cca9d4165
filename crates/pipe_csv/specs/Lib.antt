pub mod Fields
pub mod CsvRows
pub mod CsvError
pub mod Columns
pub mod Numbers
pub mod Texts
pub mod Written
pub mod Worked
