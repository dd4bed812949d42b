pub mod Choice
pub mod Codes
pub mod LegacyCodes
pub mod Runs
pub mod Subtables
pub mod Variations
