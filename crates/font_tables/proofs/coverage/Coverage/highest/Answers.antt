use Rattle.std.proofs.Common.{◌≡◌, ◌-◌, Some, arith, subst, sym, ◌∙◌}
use Rattle.font_tables.specs.Coverage.{listed_count, listed_glyph}
use Rattle.font_tables.specs.GlyphRanges.{range_count, range_last}
use Rattle.font_tables.specs.Rows.{Rises}
use Rattle.font_tables.proofs.HighestLemmas.{highest_listed, highest_ranged}
use Rattle.font_tables.proofs.coverage.Coverage.highest.Goals as goal

pub returns-in-1 : goal.returns-in-1
returns-in-1 c = λ highest glyph is some.
    let table = c.args.self.now.table.now in
    let of = c.args.self.now in
    let many = of.lists c.in-1.is in
    let rise = subst (λ n. Rises (listed_glyph table) n) many (of.list_rises c.if-not-self.false c.in-1.is) in
    let row : c.from-row.result - 1 ≡ listed_count table - 1 = omega (arith, c.from-row.ensures, many) in
    let there : listed_glyph table (listed_count table - 1) ≡ Some highest = rw row at (sym c.u16_at.ensures ∙ is) in
    highest_listed table glyph highest (sym of.is_format ∙ c.in-1.is) rise there some

pub returns-in-2 : goal.returns-in-2
returns-in-2 c = λ highest glyph is some.
    let table = c.args.self.now.table.now in
    let of = c.args.self.now in
    let many = of.ranges c.in-2.is in
    let rise = subst (λ n. Rises (range_last table) n) many (of.ranges_rise c.if-not-self.false c.in-2.is) in
    let row : c.from-row.result - 1 ≡ range_count table - 1 = omega (arith, c.from-row.ensures, many) in
    let there : range_last table (range_count table - 1) ≡ Some highest = rw row at (sym c.u16_at-in-2.ensures ∙ is) in
    highest_ranged table glyph highest (sym of.is_format ∙ c.in-2.is) rise there some
