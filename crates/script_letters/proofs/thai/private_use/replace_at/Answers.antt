use Rattle.std.proofs.Common.{List, get_or, ap, ◌∙◌}
use Rattle.std.proofs.lemmas.List.{length-set}
use Rattle.rb_glyph.specs.declared.info.hb_glyph_info_t.{hb_glyph_info_t}
use Rattle.glyph_lists.specs.Clusters.{zero_glyph}
use Rattle.shaping_buffer.proofs.ClosedKeepsLemmas.{keeps_with_input}
use Rattle.script_items.proofs.WrittenLemmas.{with_input-is}
use Rattle.script_letters.specs.Thai.{shaped, shaped_at}
use Rattle.script_letters.proofs.thai.private_use.replace_at.Goals as goal

pub returns-clause-is : goal.returns-clause-is
returns-clause-is g c =
    let has = g.F.FontGlyphs.has c.args.font.now in
    let l = c.args.buffer.now.input in
    with_input-is c.args.buffer.now c.replace_character.new.infos (shaped_at has c.args.action c.args.place l)
    (c.replace_character.ensures.is
    ∙ ap (λ (xs : List hb_glyph_info_t). shaped_at has c.args.action c.args.place xs) c.info_slice_mut.ensures.value)
    (length-set l c.args.place (shaped has c.args.action (get_or l c.args.place zero_glyph)))

pub returns-clause-stays : goal.returns-clause-stays
returns-clause-stays g c = record {
  closed = c.requires;
  keeps = keeps_with_input c.args.buffer.now c.replace_character.new.infos c.info_slice_mut.result.now c.info_slice_mut.ensures.value
      c.replace_character.ensures.clusters;
}
