pub mod ExtentFacts
pub mod FedFacts
pub mod RowFacts
pub mod StateFacts
pub mod SaveFacts
