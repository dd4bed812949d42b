use Rattle.std.proofs.Common.{◌++◌, ◌∙◌, take, drop, ap, arith}
use Rattle.std.proofs.lemmas.Grind.{common_steps}
use Rattle.glyph_sides.proofs.Views.{drop-next, drop-behind}
use Rattle.glyph_sides.proofs.sides.Sides.delete_head.Goals as goal

pub returns-then-self-clause-is : goal.returns-then-self-clause-is
returns-then-self-clause-is c =
    let b = c.self.inside in
    let input = c.keep_cluster.new.input in
    let rest = drop-next b.cursor (take b.cursor b.info.items ++ input)
    ∙ ap (drop 1) (drop-behind b.cursor b.info.items input c.self.invariant.cursor_within)
    ∙ c.keep_cluster.ensures.rest in
    grind (arith, common_steps, rest)
