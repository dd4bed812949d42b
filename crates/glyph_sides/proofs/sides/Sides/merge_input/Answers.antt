use Rattle.std.proofs.Common.{◌≡◌, ◌∙◌, false, [], length, ap, arith}
use Rattle.std.proofs.lemmas.Grind.{common_steps}
use Rattle.glyph_lists.specs.ClusterOrder.{is_any}
use Rattle.glyph_lists.proofs.LengthsLemmas.{length-merge_or_mark}
use Rattle.glyph_sides.specs.TwoLists.{TwoLists}
use Rattle.glyph_sides.proofs.MergingLemmas.{input-closed_merge}
use Rattle.glyph_sides.proofs.sides.Sides.merge_input.Goals as goal

-- no output is open
pub returns-then-not-self-clause-is : goal.returns-then-not-self-clause-is
returns-then-not-self-clause-is c =
    let a = c.args in
    let s = a.self.now in
    let closed : s.is_open ≡ false = grind (arith, common_steps) in
    let none : s.out ≡ [] = grind (arith, common_steps) in
    c.merge_list.ensures ∙ input-closed_merge (is_any a.order) a.start a.end s closed none

pub returns-then-not-self-clause-input_len : goal.returns-then-not-self-clause-input_len
returns-then-not-self-clause-input_len c =
    let a = c.args in
    let s = a.self.now in
    ap (λ (t : TwoLists). length t.input) c.merge_list.ensures
    ∙ length-merge_or_mark (is_any a.order) s.input a.start a.end s.idx
