pub mod Chains
pub mod Flags
pub mod Offsets
pub mod Places
pub mod Placing
pub mod Spans
