pub mod ValueOrder
pub mod FrameFacts
pub mod TypeFacts
pub mod ElementFacts
pub mod AscendingFacts
pub mod PieceFacts
