pub mod Feature
pub mod FeatureParts
pub mod FeatureReading
pub mod LanguageCut
pub mod LanguageTable
pub mod Tags
pub mod TextParser
-- what the public clauses name of the crate below
pub use Rattle.rb_common.specs.Ascii
pub use Rattle.rb_common.specs.Direction
pub use Rattle.rb_common.specs.Script
pub use Rattle.rb_common.specs.Tag
pub use Rattle.rb_common.specs.declared.direction
pub use Rattle.rb_common.specs.declared.tag
