use Rattle.std.proofs.Common.{◌∷◌, ◌++◌, [], ap}
use Rattle.shape_lines.proofs.printing.GlyphPrinter.text.Goals as goal

pub returns : goal.returns
returns g c = ap (λ t. 91 ∷ t ++ 93 ∷ []) c.in_ok-text.ensures.is
