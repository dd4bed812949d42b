use Rattle.std.proofs.Common.{List, ap, ◌∙◌}
use Rattle.rb_glyph.specs.declared.info.hb_glyph_info_t.{hb_glyph_info_t}
use Rattle.glyph_lists.specs.Clusters.{clusters}
use Rattle.shaping_buffer.proofs.ClosedKeepsLemmas.{keeps_with_input}
use Rattle.script_items.proofs.WrittenLemmas.{with_input-is}
use Rattle.script_joining.specs.Joining.{with_forms}
use Rattle.script_joining.proofs.FormsLemmas.{clusters-with_forms, length-with_forms}
use Rattle.script_joining.proofs.arabic.masks.set_forms_in.Goals as goal

pub returns-clause-is : goal.returns-clause-is
returns-clause-is c =
    let l = c.args.buffer.now.input in
    with_input-is c.args.buffer.now c.set_forms.new.infos (with_forms c.args.before l c.args.behind)
    (c.set_forms.ensures
    ∙ ap (λ (xs : List hb_glyph_info_t). with_forms c.args.before xs c.args.behind) c.info_slice_mut.ensures.value)
    (length-with_forms c.args.before c.args.behind l)

pub returns-clause-stays : goal.returns-clause-stays
returns-clause-stays c = record {
  closed = c.requires;
  keeps = keeps_with_input c.args.buffer.now c.set_forms.new.infos c.info_slice_mut.result.now c.info_slice_mut.ensures.value
      (ap clusters c.set_forms.ensures
      ∙ clusters-with_forms c.args.before c.args.behind c.info_slice_mut.result.now);
}
