pub mod StandardStrings
pub mod Charset
pub mod StandardEncoding
pub mod Cff
pub mod Outlines
pub mod Path
pub mod Charstring
