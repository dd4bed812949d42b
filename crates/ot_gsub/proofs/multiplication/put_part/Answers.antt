use Rattle.std.proofs.Common.{arith}
use Rattle.ot_gsub.proofs.EditsLemmas.{twin_by_meets}
use Rattle.ot_gsub.proofs.multiplication.put_part.Goals as goal

pub returns-clause-twin : goal.returns-clause-twin
returns-clause-twin c =
    twin_by_meets _ c.set_class.new.buffer c.from.result c.output_glyph.result c.output_glyph.new.self
    c.set_class.ensures.opened
    (omega (arith, c.requires.glyph, c.set_component.ensures.same_length, c.set_class.ensures.same_length))
    c.output_glyph.ensures.meets
