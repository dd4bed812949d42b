pub mod Categories
pub mod Category
pub mod Characters
pub mod Constants
pub mod Fields
pub mod FlagSets
pub mod Hangul
pub mod Rows
pub mod Scripts
pub mod Search
pub mod Tables
pub mod UnicodeProps
-- what the public clauses name of the crate below
pub use Rattle.rb_common.specs.Script
pub use Rattle.rb_common.specs.Tag
