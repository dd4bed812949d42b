use Rattle.std.proofs.Common.{List, length, ap, ◌∙◌}
use Rattle.rb_glyph.specs.declared.info.hb_glyph_info_t.{hb_glyph_info_t}
use Rattle.glyph_lists.specs.Clusters.{clusters}
use Rattle.glyph_lists.specs.Parts.{map_range}
use Rattle.glyph_lists.proofs.PartsLemmas.{length-map_range, map-map_range}
use Rattle.shaping_buffer.specs.State.{State}
use Rattle.shaping_buffer.proofs.ClosedKeepsLemmas.{keeps_with_input}
use Rattle.script_items.specs.Marks.{with_class}
use Rattle.script_items.proofs.WrittenLemmas.{with_input-is}
use Rattle.script_joining.proofs.ArabicMarksLemmas.{with_class-cluster}
use Rattle.script_joining.proofs.arabic.marks.set_classes.Goals as goal

pub returns-clause-is : goal.returns-clause-is
returns-clause-is c =
    let l = c.args.buffer.now.input in
    let f = with_class c.args.class in
    with_input-is c.args.buffer.now c.set_classes_of.new.infos (map_range f l c.args.start c.args.end)
    (c.set_classes_of.ensures
    ∙ ap (λ (xs : List hb_glyph_info_t). map_range f xs c.args.start c.args.end) c.info_slice_mut.ensures.value)
    (length-map_range f l c.args.start c.args.end c.requires.order)

pub returns-clause-length : goal.returns-clause-length
returns-clause-length c =
    let l = c.args.buffer.now.input in
    let f = with_class c.args.class in
    ap (λ (t : State). length t.input)
    (with_input-is c.args.buffer.now c.set_classes_of.new.infos (map_range f l c.args.start c.args.end)
    (c.set_classes_of.ensures
    ∙ ap (λ (xs : List hb_glyph_info_t). map_range f xs c.args.start c.args.end) c.info_slice_mut.ensures.value)
    (length-map_range f l c.args.start c.args.end c.requires.order))
    ∙ length-map_range f l c.args.start c.args.end c.requires.order

pub returns-clause-stays : goal.returns-clause-stays
returns-clause-stays c =
    let f = with_class c.args.class in
    record {
      closed = c.requires.closed;
      keeps = keeps_with_input c.args.buffer.now c.set_classes_of.new.infos c.info_slice_mut.result.now c.info_slice_mut.ensures.value
          (ap clusters c.set_classes_of.ensures
          ∙ map-map_range (λ (g : hb_glyph_info_t). g.cluster) f (with_class-cluster c.args.class) c.info_slice_mut.result.now
          c.args.start c.args.end c.requires.order);
    }
