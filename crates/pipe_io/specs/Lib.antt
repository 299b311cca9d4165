pub mod Files
pub mod MemoryFiles
pub mod FilePlace
pub mod Tried
pub mod TriedNames
pub mod RealFiles
pub mod Output
pub mod MemoryOutput
