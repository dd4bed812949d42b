use Rattle.std.proofs.Common.{◌+◌, ◌*◌}
use Rattle.font_colors.proofs.painter.Painter.+paint.Given as goal

-- a paint is less deep than the one that leads to it
abbrev pub decreases-painted : goal.decreases-painted
decreases-painted l = 2 * l.depth

abbrev pub decreases-layers : goal.decreases-layers
decreases-layers l = 2 * l.depth + 1

abbrev pub decreases-glyph : goal.decreases-glyph
decreases-glyph l = 2 * l.depth + 1

abbrev pub decreases-color_glyph : goal.decreases-color_glyph
decreases-color_glyph l = 2 * l.depth + 1

abbrev pub decreases-composite : goal.decreases-composite
decreases-composite l = 2 * l.depth + 1
