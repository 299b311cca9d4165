pub mod NameFacts
pub mod ExprFacts
pub mod AnswerFacts
pub mod TreeNames
pub mod FaultFacts
