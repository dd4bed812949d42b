pub mod Joining
pub mod JoiningRows
pub mod Listed
pub mod Flags
pub mod ArabicFallback
pub mod ArabicFeatures
pub mod ArabicMarks
