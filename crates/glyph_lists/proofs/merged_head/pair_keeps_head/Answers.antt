use Rattle.std.proofs.Common.{arith, ◌+◌, ap, ◌∙◌, length, get_or}
use Rattle.std.proofs.lemmas.Bool.{eqb-true}
use Rattle.std.proofs.lemmas.Grind.{common_steps}
use Rattle.glyph_lists.specs.ClusterReads.{Reads, both_clusters}
use Rattle.glyph_lists.proofs.MergedHeadLemmas.{rising_leaves, get_or-input_alone}
use Rattle.glyph_lists.proofs.merged_head.pair_keeps_head.Goals as goal

pub returns-then-len-eq2-clause-keeps : goal.returns-then-len-eq2-clause-keeps
returns-then-len-eq2-clause-keeps c =
    let r = c.args.reads.now in
    let head = c.cluster-head.ensures.is
    ∙ get_or-input_alone r.out r.input 0 c.requires.input_alone (omega (arith, c.requires.pair)) in
    let next = c.cluster-next.ensures.is
    ∙ ap (λ (x : Reads). get_or (both_clusters x) 1 0) c.cluster-head.ensures.counts
    ∙ get_or-input_alone r.out r.input 1 c.requires.input_alone c.requires.pair in
    let all = ap (λ (x : Reads). length x.input)
    (c.cluster-next.ensures.counts
    ∙ ap (λ (x : Reads). record x { reads = x.reads + 1 }) c.cluster-head.ensures.counts) in
    λ e out. let two = eqb-true c.len.result 2 e in
    rising_leaves out r.input c.requires.pair (omega (arith, c.if-head-next.true, head, next))
    (λ _ more _. omega (arith, two, all))

pub returns-else-len-eq2-clause-keeps : goal.returns-else-len-eq2-clause-keeps
returns-else-len-eq2-clause-keeps c =
    let r = c.args.reads.now in
    let head = c.cluster-head.ensures.is
    ∙ get_or-input_alone r.out r.input 0 c.requires.input_alone (omega (arith, c.requires.pair)) in
    let next = c.cluster-next.ensures.is
    ∙ ap (λ (x : Reads). get_or (both_clusters x) 1 0) c.cluster-head.ensures.counts
    ∙ get_or-input_alone r.out r.input 1 c.requires.input_alone c.requires.pair in
    λ e out. rising_leaves out r.input c.requires.pair (omega (arith, c.if-head-next.true, head, next))
    (λ _ more same.
    let third = c.cluster.ensures.is
    ∙ ap (λ (x : Reads). get_or (both_clusters x) 2 0)
    (c.cluster-next.ensures.counts
    ∙ ap (λ (x : Reads). record x { reads = x.reads + 1 }) c.cluster-head.ensures.counts)
    ∙ get_or-input_alone r.out r.input 2 c.requires.input_alone more in
    grind (arith, common_steps, e, same, next, third))

pub returns-clause-keeps : goal.returns-clause-keeps
returns-clause-keeps c =
    let r = c.args.reads.now in
    let head = c.cluster-head.ensures.is
    ∙ get_or-input_alone r.out r.input 0 c.requires.input_alone (omega (arith, c.requires.pair)) in
    let next = c.cluster-next.ensures.is
    ∙ ap (λ (x : Reads). get_or (both_clusters x) 1 0) c.cluster-head.ensures.counts
    ∙ get_or-input_alone r.out r.input 1 c.requires.input_alone c.requires.pair in
    λ e out. let same = eqb-true _ _ e in
    rising_leaves out r.input c.requires.pair (omega (arith, same, head, next))
    (λ lt _ _. omega (arith, same, head, next, lt))
