use Rattle.glyph_lists.specs.ClusterOrder.{is_any}
use Rattle.glyph_lists.proofs.MergedHeadLemmas.{short_leaves}
use Rattle.glyph_lists.proofs.merged_head.keeps_head.Goals as goal

pub returns-then-count-lt2 : goal.returns-then-count-lt2
returns-then-count-lt2 c =
    let a = c.args in
    λ _ out. short_leaves (is_any a.order) a.count out a.input.now c.if-count-lt2.true c.requires
