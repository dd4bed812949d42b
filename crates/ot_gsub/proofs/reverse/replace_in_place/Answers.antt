use Rattle.std.proofs.Common.{ap, ◌∙◌}
use Rattle.glyph_lists.specs.Clusters.{clusters}
use Rattle.shaping_buffer.proofs.ClosedKeepsLemmas.{keeps_with_input}
use Rattle.ot_gsub.specs.Edits.{replace_at}
use Rattle.ot_gsub.proofs.BufferLemmas.{clusters-replace_at, length-replace_at, with_input_whole}
use Rattle.ot_gsub.proofs.reverse.replace_in_place.Goals as goal

pub returns-clause-is : goal.returns-clause-is
returns-clause-is c =
    let s = c.args.buffer.now in
    let gdef = c.args.gdef.now.table.now in
    with_input_whole s c.set_glyph_at.new.glyphs (replace_at gdef c.args.place c.args.glyph s.input)
    (c.set_glyph_at.ensures ∙ ap (replace_at gdef c.args.place c.args.glyph) c.info_slice_mut.ensures.value)
    (length-replace_at gdef c.args.place c.args.glyph s.input)

pub returns-clause-keeps : goal.returns-clause-keeps
returns-clause-keeps c =
    let now = c.info_slice_mut.result.now in
    keeps_with_input c.args.buffer.now c.set_glyph_at.new.glyphs now c.info_slice_mut.ensures.value
    (ap clusters c.set_glyph_at.ensures
    ∙ clusters-replace_at c.args.gdef.now.table.now c.args.place c.args.glyph now)
