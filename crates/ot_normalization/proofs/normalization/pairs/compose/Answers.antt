use Rattle.ot_normalization.proofs.PartsLemmas.{composite_is}
use Rattle.ot_normalization.proofs.normalization.pairs.compose.Goals as goal

pub returns : goal.returns
returns g c =
    composite_is c.args.composing.now.shaper c.args.composing.now.has_gpos_mark c.args.a c.args.b c.compose.result
    c.compose.ensures.own c.compose.ensures.hangul c.compose.ensures.data
