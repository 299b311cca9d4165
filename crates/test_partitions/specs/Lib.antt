pub mod Asked
pub mod PlannedRuns
