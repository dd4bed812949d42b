use Rattle.std.proofs.Common.{ap, ◌∙◌}
use Rattle.rb_glyph.specs.declared.info.hb_glyph_info_t.{hb_glyph_info_t}
use Rattle.shaping_buffer.proofs.ClosedKeepsLemmas.{keeps_with_cur}
use Rattle.ot_normalization.proofs.normalization.variations.note_selector.Goals as goal

pub returns-clause-stays : goal.returns-clause-stays
returns-clause-stays c = record {
  opened = c.requires.opened;
  keeps = keeps_with_cur c.args.buffer.now 0 c.note.new.info c.cur_mut.result.now
      (c.note.ensures ∙ ap (λ (g : hb_glyph_info_t). g.cluster) c.cur_mut.ensures.value);
}
