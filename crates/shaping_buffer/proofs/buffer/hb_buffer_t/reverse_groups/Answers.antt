use Rattle.std.proofs.Common.{◌≡◌, ◌+◌, ◌-◌, ◌<◌, ◌≤◌, ◌∙◌, inl, inr, suc, true, false, [], sym, ap, subst, length, arith}
use Rattle.std.proofs.lemmas.Bool.{cases_Bool}
use Rattle.std.proofs.lemmas.Grind.{common_steps}
use Rattle.glyph_lists.specs.Groups as groups_of
use Rattle.shaping_buffer.specs.State.{State}
use Rattle.shaping_buffer.specs.KeepsClusters.{KeepsClusters}
use Rattle.shaping_buffer.specs.GroupStep.{KeepsOthers, reverse, reverse_group}
use Rattle.shaping_buffer.proofs.GroupStepLemmas.{reverse_each, reverse_each-done, reverse_each-turn}
use Rattle.shaping_buffer.proofs.GroupStepLemmas.{reverse-reverse_each}
use Rattle.shaping_buffer.proofs.GroupStepLemmas.{group_keeps, keeps_then as others_then, length_group}
use Rattle.shaping_buffer.proofs.GroupKeepsLemmas.{keeps_group, shared_each}
use Rattle.shaping_buffer.proofs.KeepsLemmas.{keeps_then, keeps_then_turns, kept_as}
use Rattle.shaping_buffer.proofs.buffer.hb_buffer_t.reverse_groups.Goals as goal

pub loop-start-preserved : goal.loop-start-preserved
loop-start-preserved g c =
    let inv = c.loop-start.invariant in
    let merges = c.args.merge_clusters in
    let start = c.loop-start.start in
    let end = c.group_end-end.result in
    let s = c.loop-start.self in
    let b = c.self-in-loop-start.inside in
    let view = c.self-in-loop-start.view_is in
    let closed : s.have_output ≡ false = ap (λ (t : State). t.have_output) inv.4 ∙ c.requires.closed in
    let shut : b.sides.is_open ≡ false =
    ap (λ (t : State). t.have_output) view ∙ ap (λ (t : State). t.have_output) inv.4 ∙ c.requires.closed in
    let none : s.out ≡ [] = sym (ap (λ (t : State). t.out) view) ∙ (c.input.ensures.sides.shut shut).1 in
    let list : c.input.result.now ≡ s.input = c.input.ensures.is ∙ ap (λ (t : State). t.input) view in
    let up : start ≤ end = omega (arith, c.group_end-end.ensures.after) in
    let new = c.reverse_group.ensures in
    let same : length c.reverse_group.new.self.input ≡ length s.input =
    ap (λ (t : State). length t.input) new ∙ length_group merges start end s up in
    let within : start < length s.input = omega (arith, c.loop-start-test.true, inv.2) in
    let fewer : inv.0 ≡ suc (inv.0 - 1) = omega (arith, inv.1) in
    let left : length c.reverse_group.new.self.input ≤ end + (inv.0 - 1) =
    omega (arith, inv.1, same, c.group_end-end.ensures.after) in (
      inv.0 - 1,
      left,
      inv.2 ∙ sym same,
      same ∙ inv.3,
      others_then c.args.self.now s c.reverse_group.new.self inv.4
          (subst (KeepsOthers s) (sym new) (group_keeps merges start end s none)),
      inv.5,
      λ test by.
          ap (reverse_each merges test (inv.0 - 1) end) new
          ∙ reverse_each-turn merges test inv.0 (inv.0 - 1) start end s within fewer
          (c.group_end-end.ensures.is test by ∙ ap (groups_of.group_end test start) list)
          ∙ inv.6 test by,
      λ e. keeps_then c.args.self.now s c.reverse_group.new.self (inv.7 e)
          (kept_as s (reverse_group true start end s) c.reverse_group.new.self
          (keeps_group start end s closed none up (omega (arith, c.group_end-end.ensures.until, ap length list)))
          (new ∙ ap (λ b. reverse_group b start end s) e)),
    )

pub returns-clause-is : goal.returns-clause-is
returns-clause-is g c = λ test by.
    let inv = c.loop-start.invariant in
    c.reverse.ensures.is
    ∙ ap reverse
    (sym (reverse_each-done c.args.merge_clusters test inv.0 c.loop-start.start c.loop-start.self (omega arith))
    ∙ inv.6 test by)
    ∙ reverse-reverse_each c.args.merge_clusters test c.args.self.now inv.5

pub returns-clause-merging_turns : goal.returns-clause-merging_turns
returns-clause-merging_turns g c = λ e.
    keeps_then_turns c.args.self.now c.loop-start.self c.reverse.new.self (c.loop-start.invariant.7 e)
    c.reverse.ensures.turns

pub returns-clause-turns : goal.returns-clause-turns
returns-clause-turns g c = λ test by share.
    let inv = c.loop-start.invariant in
    let none : c.args.self.now.out ≡ [] = grind (arith, common_steps) in
    let each : c.loop-start.self ≡ reverse_each c.args.merge_clusters test (length c.args.self.now.input) 0 c.args.self.now =
    sym (reverse_each-done c.args.merge_clusters test inv.0 c.loop-start.start c.loop-start.self (omega arith))
    ∙ inv.6 test by in
    let kept : KeepsClusters c.args.self.now c.loop-start.self = elim (cases_Bool c.args.merge_clusters) [
      | inl merges ↦ inv.7 merges
      | inr plain ↦ kept_as _ _ _
          (shared_each test (length c.args.self.now.input) 0 c.args.self.now none share)
          (each ∙ ap (λ b. reverse_each b test (length c.args.self.now.input) 0 c.args.self.now) plain)
    ] in
    keeps_then_turns c.args.self.now c.loop-start.self c.reverse.new.self kept c.reverse.ensures.turns
