use Rattle.std.proofs.Common.{◌≡◌, ◌+◌, ◌-◌, ◌<◌, ◌∙◌, length, set, ap, sym, subst, arith}
use Rattle.rb_glyph.specs.declared.info.hb_glyph_info_t.{hb_glyph_info_t}
use Rattle.glyph_lists.specs.Clusters.{clusters, with_cluster}
use Rattle.glyph_laws.proofs.ReadingsLemmas.{at}
use Rattle.ot_apply.proofs.RisingLemmas.{IsRaisedFrom, raised_none, raised_more, raised_all, clusters-rising, rising_stays}
use Rattle.ot_apply.proofs.cluster_order.raise_all.Goals as goal

pub loop-place-init : goal.loop-place-init
loop-place-init c = raised_none c.args.infos.now

pub loop-place-preserved : goal.loop-place-preserved
loop-place-preserved c =
    let p = c.loop-place.place - 1 in
    let k = p - 1 in
    let now = c.loop-place.infos in
    let old = c.args.infos.now in
    let next : k + 1 ≡ p = omega (arith, c.loop-place-test.true) in
    let in_now : p < length now = omega (arith, c.loop-place-test.true, c.loop-place.auto.infos, c.loop-place.auto.place) in
    subst (λ (g : hb_glyph_info_t). IsRaisedFrom k old (set now k g)) (sym
    (c.set_cluster.ensures ∙ ap (λ m. with_cluster m (at now p).mask (at now k)) c.min-cluster.ensures))
    (raised_more p k old now next in_now c.loop-place.invariant)

pub returns-clause-is : goal.returns-clause-is
returns-clause-is c =
    raised_all (c.loop-place.place - 1) c.args.infos.now c.loop-place.infos (omega (arith, c.loop-place-test.false))
    c.loop-place.invariant

pub returns-clause-clusters : goal.returns-clause-clusters
returns-clause-clusters c =
    ap clusters (raised_all (c.loop-place.place - 1) c.args.infos.now c.loop-place.infos
    (omega (arith, c.loop-place-test.false)) c.loop-place.invariant) ∙ clusters-rising c.args.infos.now

pub returns-clause-stays : goal.returns-clause-stays
returns-clause-stays c = λ up.
    raised_all (c.loop-place.place - 1) c.args.infos.now c.loop-place.infos (omega (arith, c.loop-place-test.false))
    c.loop-place.invariant ∙ rising_stays c.args.infos.now up
