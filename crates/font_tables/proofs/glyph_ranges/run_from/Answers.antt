use Rattle.std.proofs.Common.{refl, sym, ◌∙◌}
use Rattle.font_tables.proofs.RunLemmas.{run_goes, run_of_row, run_of_none}
use Rattle.font_tables.proofs.glyph_ranges.run_from.Goals as goal

pub returns-in-Some-clause-goes : goal.returns-in-Some-clause-goes
returns-in-Some-clause-goes c =
    run_goes c.args.table.now c.run_of.result c.in-Some.row c.args.glyph.0
    (record { first = c.run_of.ensures.first; end = c.run_of.ensures.end; value = c.run_of.ensures.value; small = c.run_of.ensures.small })
    (sym c.first_range.ensures.is ∙ c.in-Some.is)

pub returns-in-Some-clause-values : goal.returns-in-Some-clause-values
returns-in-Some-clause-values c =
    run_of_row c.args.table.now c.run_of.result c.in-Some.row c.args.glyph.0
    (record { first = c.run_of.ensures.first; end = c.run_of.ensures.end; value = c.run_of.ensures.value; small = c.run_of.ensures.small })
    (sym c.first_range.ensures.is ∙ c.in-Some.is)

pub returns-in-None-clause-values : goal.returns-in-None-clause-values
returns-in-None-clause-values c =
    run_of_none c.args.table.now _ c.args.glyph.0 refl (sym c.first_range.ensures.is ∙ c.in-None.is)
