use Rattle.std.proofs.Common.{◌∙◌}
use Rattle.ot_normalization.proofs.PartsLemmas.{with_zero-parts_of_char}
use Rattle.ot_normalization.proofs.normalization.parts.parts_of_char.Goals as goal

pub returns : goal.returns
returns c =
    c.with_zero.ensures
    ∙ with_zero-parts_of_char c.args.shaper c.args.character c.decompose.result c.decompose.ensures.own
    c.decompose.ensures.hangul
    c.decompose.ensures.data
