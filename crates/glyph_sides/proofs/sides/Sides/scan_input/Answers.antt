use Rattle.std.proofs.Common.{◌≡◌, ◌+◌, ◌++◌, ◌∙◌, take, drop, ap, arith, if◌then◌else◌}
use Rattle.std.proofs.lemmas.Grind.{common_steps}
use Rattle.glyph_lists.specs.ClusterOrder.{is_any}
use Rattle.glyph_lists.specs.Parts.{on_part}
use Rattle.glyph_lists.specs.Scans.{scan_of}
use Rattle.glyph_lists.proofs.SidesLemmas.{on_part-at}
use Rattle.glyph_sides.specs.TwoLists.{input_place}
use Rattle.glyph_sides.proofs.Views.{sides}
use Rattle.glyph_sides.proofs.sides.Sides.scan_input.Goals as goal

pub returns-clause-is : goal.returns-clause-is
returns-clause-is c =
    let b = c.self.inside in
    let a = c.args in
    let scan = scan_of (is_any a.order) a.bits in
    let xs = b.info.items in
    let n = if b.is_open then b.cursor else 0 in
    let p = input_place a.start a.self.now in
    let q = input_place a.end a.self.now in
    let from : b.front + a.start ≡ n + p = grind (arith) in
    let to : b.front + a.end ≡ n + q = grind (arith) in
    let moved : on_part scan xs (b.front + a.start) (b.front + a.end) ≡ take n xs ++ on_part scan (drop n xs) p q =
    ap (λ k. on_part scan xs k (b.front + a.end)) from ∙ ap (on_part scan xs (n + p)) to
    ∙ on_part-at scan xs n p q (grind (arith)) in
    grind (arith, common_steps, sides, moved)
