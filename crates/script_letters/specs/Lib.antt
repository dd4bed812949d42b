pub mod Hangul
pub mod HangulFeatures
pub mod Hebrew
pub mod Thai
