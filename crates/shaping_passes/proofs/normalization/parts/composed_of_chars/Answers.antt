use Rattle.rb_glyph.specs.Tables.{composition_of}
use Rattle.shaping_passes.proofs.NormalizationPartsLemmas.{composed_is}
use Rattle.shaping_passes.proofs.normalization.parts.composed_of_chars.Goals as goal

pub returns : goal.returns
returns c =
    composed_is c.args.a c.args.b (composition_of c.args.a c.args.b c.args.compositions.now) c.compose.result
    c.compose.ensures.hangul c.compose.ensures.table
