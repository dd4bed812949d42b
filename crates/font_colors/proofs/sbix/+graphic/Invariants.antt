use Rattle.font_colors.proofs.sbix.+graphic.Given as goal

-- each glyph that names another one is asked once
abbrev pub decreases-graphic : goal.decreases-graphic
decreases-graphic l = l.most
