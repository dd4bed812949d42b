use Rattle.std.proofs.Common.{List, ap, ◌∙◌}
use Rattle.rb_glyph.specs.declared.info.hb_glyph_info_t.{hb_glyph_info_t}
use Rattle.glyph_lists.specs.Clusters.{clusters}
use Rattle.shaping_buffer.proofs.ClosedKeepsLemmas.{keeps_with_input}
use Rattle.script_items.proofs.WrittenLemmas.{with_input-is}
use Rattle.script_joining.specs.Joining.{selectors_formed}
use Rattle.script_joining.proofs.FormsLemmas.{clusters-selectors_formed, length-selectors_formed}
use Rattle.script_joining.proofs.arabic.masks.form_variation_selectors.Goals as goal

pub returns-clause-is : goal.returns-clause-is
returns-clause-is c =
    let l = c.args.buffer.now.input in
    with_input-is c.args.buffer.now c.form_selectors.new.infos (selectors_formed l)
    (c.form_selectors.ensures ∙ ap (λ (xs : List hb_glyph_info_t). selectors_formed xs) c.info_slice_mut.ensures.value)
    (length-selectors_formed l)

pub returns-clause-stays : goal.returns-clause-stays
returns-clause-stays c = record {
  closed = c.requires;
  keeps = keeps_with_input c.args.buffer.now c.form_selectors.new.infos c.info_slice_mut.result.now c.info_slice_mut.ensures.value
      (ap clusters c.form_selectors.ensures ∙ clusters-selectors_formed c.info_slice_mut.result.now);
}
