pub mod AskedLemmas
pub mod BuilderLemmas
pub mod DecisionLemmas
pub mod KernLemmas
