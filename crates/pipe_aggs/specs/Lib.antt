pub mod QueryTrees
pub mod Faults
pub mod KnownArena
pub mod CheckedQuery
pub mod HashAggs
pub mod Worked
