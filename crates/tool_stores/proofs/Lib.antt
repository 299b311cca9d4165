pub mod StorePathFacts
