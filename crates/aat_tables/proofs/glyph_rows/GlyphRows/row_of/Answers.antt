use Rattle.std.proofs.Common.{◌≡◌, ◌+◌, ◌-◌, ◌/◌, ◌∙◌, arith, sym, Some}
use Rattle.aat_tables.specs.GlyphRows.{last_of, first_of}
use Rattle.aat_tables.proofs.RowLemmas.{behind, before}
use Rattle.aat_tables.proofs.glyph_rows.GlyphRows.row_of.Goals as goal

pub loop-low-preserved-then-glyph-first : goal.loop-low-preserved-then-glyph-first
loop-low-preserved-then-glyph-first c =
    let s = c.args.self.now in
    let middle = c.loop-low.low + (c.loop-low.high - 1 - c.loop-low.low) / 2 in
    let there : first_of s.table.now s.size s.skip middle ≡ Some c.in_ok-first.first = sym c.first.ensures ∙ c.in_ok-first.was in
    record {
      order = omega arith;
      within = omega arith;
      before = c.loop-low.invariant.before;
      behind = λ sorted row up in_rows holds.
          before s.table.now s.size s.skip s.count c.args.glyph middle c.in_ok-first.first sorted.firsts there
          c.if-glyph-first.true row up in_rows holds;
    }

pub loop-low-preserved : goal.loop-low-preserved
loop-low-preserved c =
    let s = c.args.self.now in
    let middle = c.loop-low.low + (c.loop-low.high - 1 - c.loop-low.low) / 2 in
    let there : last_of s.table.now s.size middle ≡ Some c.in_ok-last.last = sym c.last.ensures ∙ c.in_ok-last.was in
    record {
      order = omega arith;
      within = omega arith;
      before = λ sorted row below holds.
          behind s.table.now s.size s.skip s.count c.args.glyph middle c.in_ok-last.last sorted.lasts (omega arith) there
          c.if-last-glyph.true row below holds;
      behind = c.loop-low.invariant.behind;
    }
