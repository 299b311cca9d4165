pub mod OwnStore
pub mod MadeIn
