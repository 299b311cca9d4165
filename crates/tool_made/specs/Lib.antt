pub mod Made
pub mod MadeQuery
