use Rattle.shape_lines.proofs.AnswerLemmas.{append-objects}
use Rattle.shape_lines.proofs.printing.GlyphPrinter.objects.Goals as goal

pub returns : goal.returns
returns g c =
    append-objects _ c.args.self.now.output.flags c.args.glyphs.now _ _ _ c.glyph_infos-infos.ensures
    c.glyph_positions-positions.ensures.positions c.in_ok-objects.ensures
