pub mod ProgramStore
pub mod StorePath
