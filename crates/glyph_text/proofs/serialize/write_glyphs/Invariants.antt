use Rattle.std.proofs.Common.{string_bytes}
use Rattle.glyph_text.proofs.TextLemmas.{Written}
use Rattle.glyph_text.proofs.serialize.write_glyphs.Given as goal

-- the glyphs so far are written, and their advances summed
abbrev pub invariant-loop-i : goal.invariant-loop-i
invariant-loop-i g l =
    Written (record { name = g.F.GlyphNames.name_of l.font; extents = g.F.GlyphNames.extents_of l.font }) l.flags
    l.infos l.positions l.i (string_bytes l.text) l.pen
