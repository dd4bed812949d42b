use Rattle.std.proofs.Common.{◌-◌, List, length, get_or, ap, ◌∙◌}
use Rattle.std.proofs.lemmas.List.{length-set}
use Rattle.rb_glyph.specs.declared.info.hb_glyph_info_t.{hb_glyph_info_t}
use Rattle.glyph_lists.specs.Clusters.{zero_glyph}
use Rattle.shaping_buffer.proofs.ClosedKeepsLemmas.{keeps_with_out}
use Rattle.script_items.specs.Graphemes.{continuing_mark}
use Rattle.script_items.proofs.WrittenLemmas.{with_out-is}
use Rattle.script_letters.specs.Thai.{last_marked}
use Rattle.script_letters.proofs.thai.sara_am.mark_last.Goals as goal

pub returns-clause-is : goal.returns-clause-is
returns-clause-is c =
    let l = c.args.buffer.now.out in
    with_out-is c.args.buffer.now c.become_last_mark.new.infos (last_marked l)
    (c.become_last_mark.ensures.is ∙ ap (λ (xs : List hb_glyph_info_t). last_marked xs) c.out_info_mut.ensures.value)
    (length-set l (length l - 1) (continuing_mark (get_or l (length l - 1) zero_glyph)))

pub returns-clause-stays : goal.returns-clause-stays
returns-clause-stays c = record {
  opened = c.requires;
  keeps = keeps_with_out c.args.buffer.now c.become_last_mark.new.infos c.out_info_mut.result.now c.out_info_mut.ensures.value
      c.become_last_mark.ensures.clusters;
}
