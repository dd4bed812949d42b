use Rattle.std.proofs.Common.{◌-◌, ◌≤◌, ◌<◌, ℕ}
use Rattle.aat_tables.specs.GlyphRows.{AreSorted, Holds}
use Rattle.aat_tables.proofs.glyph_rows.GlyphRows.row_of.Given as goal

-- no row before `low`, and none from `high` on, holds the glyph
abbrev pub invariant-loop-low : goal.invariant-loop-low
invariant-loop-low l = record {
  order : l.low ≤ l.high;
  within : l.high ≤ l.self.count;
  before : AreSorted l.self.table.now l.self.size l.self.skip l.self.count → (row : ℕ) → row < l.low
      → Holds l.self.table.now l.self.size l.self.skip l.glyph row → ⊥;
  behind : AreSorted l.self.table.now l.self.size l.self.skip l.self.count → (row : ℕ) → l.high ≤ row
      → row < l.self.count → Holds l.self.table.now l.self.size l.self.skip l.glyph row → ⊥;
}

abbrev pub decreases-loop-low : goal.decreases-loop-low
decreases-loop-low l = l.high - l.low
