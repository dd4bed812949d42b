pub mod Plans
pub mod Decisions
pub mod Forms
pub mod Shapers
pub mod AskedFor
