mod Views
mod History
mod Steps
mod PassSteps
mod ArrivedFacts
mod WroteFacts
mod LineFacts
mod SunkFacts
