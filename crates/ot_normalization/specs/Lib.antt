pub mod FontRules
-- what the public clauses name of the crates below
pub use Rattle.script_items.specs.Marks
