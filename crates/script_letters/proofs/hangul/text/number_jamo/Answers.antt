use Rattle.std.proofs.Common.{List, ap, ◌∙◌}
use Rattle.rb_glyph.specs.declared.info.hb_glyph_info_t.{hb_glyph_info_t}
use Rattle.shaping_buffer.proofs.ClosedKeepsLemmas.{keeps_with_out}
use Rattle.script_items.proofs.WrittenLemmas.{with_out-is}
use Rattle.script_letters.specs.Hangul.{numbered}
use Rattle.script_letters.proofs.HangulLemmas.{length-numbered}
use Rattle.script_letters.proofs.hangul.text.number_jamo.Goals as goal

pub returns-clause-is : goal.returns-clause-is
returns-clause-is c =
    let l = c.args.buffer.now.out in
    with_out-is c.args.buffer.now c.number_all.new.infos (numbered c.args.start l)
    (c.number_all.ensures.is ∙ ap (λ (xs : List hb_glyph_info_t). numbered c.args.start xs) c.out_info_mut.ensures.value)
    (length-numbered c.args.start l)

pub returns-clause-stays : goal.returns-clause-stays
returns-clause-stays c = record {
  opened = c.requires;
  keeps = keeps_with_out c.args.buffer.now c.number_all.new.infos c.out_info_mut.result.now c.out_info_mut.ensures.value
      c.number_all.ensures.clusters;
}
