use Rattle.rb_glyph.specs.Tables.{decomposition_of}
use Rattle.shaping_passes.proofs.NormalizationPartsLemmas.{decomposed_is}
use Rattle.shaping_passes.proofs.normalization.parts.parts_of_char.Goals as goal

pub returns : goal.returns
returns c =
    decomposed_is c.args.c (decomposition_of c.args.c c.args.decompositions.now) c.decompose.result c.decompose.ensures.hangul
    c.decompose.ensures.table
