pub mod Native
pub mod NativeLaws
