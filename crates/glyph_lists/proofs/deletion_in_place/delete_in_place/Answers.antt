use Rattle.std.proofs.Common.{◌≡◌, ◌+◌, ◌-◌, ◌<◌, ◌∙◌, ◌||◌, true, false, suc, refl, sym, ap, length, get_or, arith}
use Rattle.glyph_lists.specs.ClusterOrder.{is_any}
use Rattle.glyph_lists.specs.Clusters.{zero_glyph}
use Rattle.glyph_lists.proofs.DeletingWalkLemmas.{leads_first, leads_same, leads_deletion, leads_next}
use Rattle.glyph_lists.proofs.deletion_in_place.delete_in_place.Goals as goal
use Rattle.glyph_lists.proofs.deletion_in_place.delete_in_place.Goals.{then-deletes, else-deletes}

pub loop-at-init : goal.loop-at-init
loop-at-init g c = (
  length c.args.info.now,
  omega arith,
  omega arith,
  λ test by. leads_first (is_any c.args.order) test c.args.info.now c.args.pos.now,
)

pub loop-at-preserved : goal.loop-at-preserved
loop-at-preserved g c =
    let inv = c.loop-at.invariant in
    let old = c.args.info.now in
    let old_pos = c.args.pos.now in
    let any_order = is_any c.args.order in
    let l = c.loop-at in
    let new = c.if-deletes in
    let t = inv.0 - 1 in
    let within : l.at < length old = c.loop-at-test.true in
    let fewer : inv.0 ≡ suc t = omega (arith, inv.1) in
    let left : l.at + 1 + t ≡ length old = omega (arith, inv.1) in
    elim c.if-deletes.branch [
      | then-deletes w ↦ (
        t,
        left,
        omega (arith, inv.2, w.kept-is),
        λ test by.
            let is : test (get_or l.info l.at zero_glyph) ≡ true = sym (by _ _ c.deletes.ensures) ∙ w.if-deletes.true in
            leads_same any_order test old old_pos t (l.at + 1) _ new.kept _ new.info _ new.pos _ new.merges w.kept-is
            w.info-is w.pos-is refl
            (leads_deletion any_order test old old_pos inv.0 t l.kept l.at l.info w.delete_at-merges.new.info l.pos
            l.merges fewer (inv.3 test by) new.merges is w.delete_at-merges.ensures.sides
            (w.merges-is ∙ ap (λ b. l.merges || b) w.delete_at-merges.ensures.merges)),
      )
      | else-deletes w ↦ (
        t,
        left,
        omega (arith, inv.2, w.kept-is),
        λ test by.
            let is : test (get_or l.info l.at zero_glyph) ≡ false =
            sym (by _ _ c.deletes.ensures) ∙ w.if-deletes.false in
            let info = w.keep_at.ensures in
            let pos = w.keep_at-else-deletes.ensures in
            leads_same any_order test old old_pos t (l.at + 1) _ new.kept _ new.info _ new.pos _ new.merges w.kept-is
            w.info-is w.pos-is w.merges-is
            (leads_next any_order test old old_pos inv.0 t l.kept l.at l.info w.keep_at.new.items l.pos l.merges fewer
            (inv.3 test by) w.keep_at-else-deletes.new.items within l.auto.pos is (info.front (omega arith))
            info.rest pos.front pos.rest),
      )
    ]
