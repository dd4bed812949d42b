use Rattle.std.proofs.Common.{◌≡◌, ◌<◌, length, get_or, set, sym, ap, ◌∙◌, arith}
use Rattle.rb_glyph.specs.declared.info.hb_glyph_info_t.{hb_glyph_info_t}
use Rattle.glyph_lists.specs.Parts.{map_range}
use Rattle.glyph_lists.specs.Clusters.{clusters, zero_glyph}
use Rattle.glyph_lists.specs.Marks.{with_glyph_flags}
use Rattle.glyph_lists.proofs.PartsLemmas.{set-map_range_more, get_or-map_range_next}
use Rattle.glyph_lists.proofs.ClustersLemmas.{length-clusters, get_or-clusters}
use Rattle.glyph_lists.proofs.ScanEndsLemmas.{first_from-more, first_from-here, first_from-zero}
use Rattle.glyph_lists.proofs.glyph_flags.mark_before_first.Goals as goal

pub loop-end-preserved : goal.loop-end-preserved
loop-end-preserved c =
    let l = c.loop-end in
    let info = c.args.info.now in
    let cs = clusters info in
    let f = with_glyph_flags c.args.bits in
    let n : length cs ≡ length info = length-clusters info in
    let here : l.end < length info = l.invariant.within in
    let same : get_or l.info l.end zero_glyph ≡ get_or info l.end zero_glyph =
    ap (λ xs. get_or xs l.end zero_glyph) l.invariant.marked
    ∙ get_or-map_range_next f info 0 l.end zero_glyph (omega arith) here in
    let off : get_or cs l.end 0 ≡ c.args.cluster → ⊥ =
    λ is. c.if-info-end.true (ap (λ (g : hb_glyph_info_t). g.cluster) same
    ∙ sym (get_or-clusters info l.end zero_glyph here) ∙ is) in
    record {
      within = omega (arith, c.loop-end-test.true, c.loop-end.auto.info);
      marked = ap (λ xs. set xs l.end c.mark.new.glyph) l.invariant.marked
          ∙ set-map_range_more f info 0 l.end c.mark.new.glyph zero_glyph (omega arith) here (c.mark.ensures
          ∙ ap f same);
      same = first_from-more c.args.cluster cs l.end (omega (arith, n, here)) off ∙ l.invariant.same;
    }

pub returns-else-info-end : goal.returns-else-info-end
returns-else-info-end c =
    let l = c.loop-end in
    let info = c.args.info.now in
    let f = with_glyph_flags c.args.bits in
    let here : l.end < length info = l.invariant.within in
    let is : get_or (clusters info) l.end 0 ≡ c.args.cluster =
    get_or-clusters info l.end zero_glyph here
    ∙ ap (λ (g : hb_glyph_info_t). g.cluster)
    (sym (ap (λ xs. get_or xs l.end zero_glyph) l.invariant.marked
    ∙ get_or-map_range_next f info 0 l.end zero_glyph (omega arith) here))
    ∙ c.if-info-end.false in
    l.invariant.marked
    ∙ ap (map_range f info 0)
    (sym (first_from-here c.args.cluster (clusters info) l.end (omega (arith, here, length-clusters info)) is)
    ∙ l.invariant.same ∙ first_from-zero c.args.cluster (clusters info))
