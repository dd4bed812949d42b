use Rattle.std.proofs.Common.{sym, ◌∙◌}
use Rattle.font_cmap.proofs.First.{glyph_index-unicode}
use Rattle.font_cmap.proofs.map.first_glyphs.Goals as goal

pub returns-in-Unicode : goal.returns-in-Unicode
returns-in-Unicode c = λ character low.
    rw c.in-Unicode.is
    (c.first_subtable_glyphs-own.ensures character low ∙ sym (glyph_index-unicode c.args.codes.now.subtable.segments.table.now character))
