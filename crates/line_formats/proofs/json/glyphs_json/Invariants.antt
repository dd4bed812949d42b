use Rattle.line_formats.proofs.JsonLemmas.{Written}
use Rattle.line_formats.proofs.json.glyphs_json.Given as goal

-- the objects so far are written
abbrev pub invariant-loop-i : goal.invariant-loop-i
invariant-loop-i g l =
    Written (record { name = g.F.GlyphNames.name_of l.font; extents = g.F.GlyphNames.extents_of l.font }) l.flags
    l.infos l.positions l.i l.text.items l.pen
