use Rattle.std.proofs.Common.{◌≡◌, ℕ}
use Rattle.std.specs.BTreeMap as tree
use Rattle.unicode_tables.proofs.Pairs.{below}
use Rattle.ucd_normal.specs.Composition.{composite}
use Rattle.rb_glyph.proofs.RisingRows.{pair_cmp}
use Rattle.unicode_tables.proofs.rows.compositions.Given as goal

-- the composites below the code are there
abbrev pub invariant-loop-code : goal.invariant-loop-code
invariant-loop-code l =
    (a b : ℕ) → tree.get pair_cmp l.pairs (a, b) ≡ below l.code (composite a b)
