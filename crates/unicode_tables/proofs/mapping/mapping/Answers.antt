use Rattle.std.proofs.Common.{ap, ◌∙◌}
use Rattle.ucd_normal.specs.Composition.{composite}
use Rattle.ucd_normal.specs.Decomposition.{canonical_decomposition}
use Rattle.unicode_tables.specs.Mapping.{step_of}
use Rattle.unicode_tables.proofs.Found.{step_of-mapping}
use Rattle.unicode_tables.proofs.mapping.mapping.Goals as goal

pub returns : goal.returns
returns c =
    c.step_of.ensures ∙ ap (step_of composite canonical_decomposition c.args.c) c.canonical_decomposition.ensures
    ∙ step_of-mapping c.args.c
