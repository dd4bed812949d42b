use Rattle.std.proofs.Common.{arith, ◌≡◌, ◌≤◌, ◌<◌, ◌+◌, ◌-◌, false, length, get_or, subst, sym, ◌∙◌}
use Rattle.glyph_lists.specs.ClusterOrder.{is_any}
use Rattle.glyph_lists.specs.ClusterReads.{Reads, both_clusters}
use Rattle.glyph_lists.specs.Clusters.{with_cluster, zero_glyph}
use Rattle.glyph_lists.specs.MergedHead.{LeavesHead}
use Rattle.glyph_lists.proofs.MergedHeadLemmas.{falling_leaves}
use Rattle.glyph_lists.proofs.merged_head.lowered_head.Goals as goal

pub returns : goal.returns
returns c =
    let a = c.args in
    let l = a.input.now in
    let n = length a.out.now in
    let is_two : a.count ≡ 2 = c.if-count-ne2.false in
    let monotone : is_any a.order ≡ false = sym c.is_any.ensures ∙ c.if-is_any.false in
    let two : 2 ≤ length l = omega (arith, c.requires) in
    let lowers = c.if-not-pair_lowers_head.false in
    let over = c.new-reads.ensures in
    let falls = subst (λ (r : Reads). get_or (both_clusters r) (n + 1) 0 < get_or (both_clusters r) n 0) over
    (c.pair_lowers_head.ensures.falls lowers) in
    let begins =
    subst (λ (r : Reads). 0 < n → get_or (both_clusters r) (n - 1) 0 ≡ get_or (both_clusters r) n 0 → ⊥) over
    (c.pair_lowers_head.ensures.begins lowers) in
    let e : LeavesHead false 2 a.out.now l (with_cluster (get_or l 1 zero_glyph).cluster 0 (get_or l 0 zero_glyph)) =
    falling_leaves a.out.now l two falls begins in
    rw (is_two, monotone, c.set_cluster.ensures) e
