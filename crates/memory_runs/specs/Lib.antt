pub mod TextRuns
pub mod Counts
pub mod Left
