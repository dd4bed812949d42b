-- Glyphs that have one value, as a range gives it.
use Rattle.std.specs.Prelude.{ℕ, List, ◌≡◌, ◌<◌, ◌≤◌, nat_le, unwrap_or, if◌then◌else◌}
use Rattle.font_tables.specs.ClassDefinition.{ranged_class, class_of}
use Rattle.font_tables.specs.declared.glyph_ranges.Run.{Run}

-- the value of a glyph before the run's end
abbrev pub value_in : Run → ℕ → ℕ
value_in run glyph = if nat_le run.first glyph then run.value else 0

-- from a glyph on, all glyphs before the run's end have their values of it
abbrev pub IsRunFrom : List ℕ → Run → ℕ → Type 0
IsRunFrom table run from =
    (glyph : ℕ) → from ≤ glyph → glyph < run.end → unwrap_or (ranged_class table glyph) 0 ≡ value_in run glyph

-- from a glyph on, all glyphs before the run's end have their classes of it
abbrev pub IsClassRun : List ℕ → Run → ℕ → Type 0
IsClassRun table run from =
    (glyph : ℕ) → from ≤ glyph → glyph < run.end → class_of table glyph ≡ value_in run glyph
