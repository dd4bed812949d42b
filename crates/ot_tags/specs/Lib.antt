pub mod LanguageTags
pub mod Registry
pub mod SubtagRules
pub mod Subtags
