pub mod QueryFacts
pub mod ReportFacts
pub mod WordFacts
pub mod EndFacts
pub mod AnswerFacts
pub mod JobFacts
