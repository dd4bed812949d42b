use Rattle.std.proofs.Common.{sym, ◌∙◌}
use Rattle.ucd_normal.specs.Composition.{composite}
use Rattle.ucd_normal.specs.Decomposition.{canonical_decomposition}
use Rattle.unicode_tables.proofs.Whole.{head_whole, head_listed}
use Rattle.unicode_tables.proofs.mapping.head_of.Goals as goal

pub returns-in-Some : goal.returns-in-Some
returns-in-Some c =
    sym (head_whole composite canonical_decomposition c.args.chars.now c.in-Some.whole (sym c.in-Some.ensures))

pub returns-in-None : goal.returns-in-None
returns-in-None c =
    c.listed_head.ensures
    ∙ sym (head_listed composite canonical_decomposition c.args.chars.now (sym c.in-None.ensures))
