pub mod DigitFacts
pub mod EachFacts
pub mod LetterFacts
pub mod ActionFacts
pub mod CommandFacts
