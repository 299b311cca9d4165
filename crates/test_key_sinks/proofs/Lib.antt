pub mod KeyFacts
