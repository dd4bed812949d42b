use Rattle.std.proofs.Common.{◌≡◌, ◌+◌, ◌++◌, ◌∙◌, inl, inr, take, drop, sym, ap, arith}
use Rattle.std.proofs.lemmas.Bool.{cases_Bool}
use Rattle.std.proofs.lemmas.List.{drop-drop}
use Rattle.std.proofs.lemmas.Grind.{common_steps}
use Rattle.glyph_lists.specs.ClusterOrder.{is_any}
use Rattle.glyph_sides.proofs.ReplacementLemmas.{length_replaced}
use Rattle.glyph_sides.proofs.Views.{drop-behind}
use Rattle.glyph_sides.proofs.sides.Sides.replace_separate.Goals as goal

pub returns-in_err-leave : goal.returns-in_err-leave
returns-in_err-leave c =
    let a = c.args in
    let e = length_replaced (is_any a.order) a.count a.ids.now a.self.now in
    grind (arith, common_steps, e)

pub returns : goal.returns
returns c =
    let a = c.args in
    let b = c.self.inside in
    let input = c.append_merged.new.input in
    let e = length_replaced (is_any a.order) a.count a.ids.now a.self.now in
    let left : drop (b.cursor + a.count) (take b.cursor b.info.items ++ input) ≡ drop a.count input =
    sym (drop-drop a.count b.cursor (take b.cursor b.info.items ++ input))
    ∙ ap (drop a.count) (drop-behind b.cursor b.info.items input c.self.invariant.cursor_within) in
    elim (cases_Bool a.self.now.is_separate) [
      | inl separate ↦ grind (arith, common_steps, e, left, separate)
      | inr in_place ↦ grind (arith, common_steps, e, left, in_place)
    ]
