-- A subtable at a glyph.
use Rattle.std.specs.Prelude.{ℕ}
use Rattle.ot_lookups.specs.declared.lookup_list.Lookup.{Lookup}
use Rattle.ot_layout.specs.declared.skipping_iterator.SkippingIterator.{SkippingIterator}
use Rattle.ot_lookups.specs.declared.subtable.Subtable.{Subtable}
use Rattle.ot_gpos_tables.specs.declared.instance.Instance.{Instance}
use Rattle.ot_gpos.specs.declared.turn.Turn.{Turn}

-- the lookup and its subtable, the iterator over the glyphs that the lookup does not pass over, the size and variations of the font, the
-- place of the glyph, and its coverage index
pub record Visit : Type 0 where
  pub lookup : Lookup
  pub subtable : Subtable
  pub iterator : SkippingIterator
  pub instance : Instance
  pub place : ℕ
  pub index : ℕ

-- what is handed to a subtable
abbrev pub visit_of : Turn → Visit
visit_of turn = record {
  lookup = turn.lookup.now;
  subtable = turn.subtable.now;
  iterator = turn.iterator;
  instance = turn.instance.now;
  place = turn.place;
  index = turn.index;
}
