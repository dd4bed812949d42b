use Rattle.std.proofs.Common.{◌+◌, length, drop, sym, ap, ◌∙◌, arith}
use Rattle.std.proofs.lemmas.List.{drop-drop}
use Rattle.std.proofs.lemmas.Grind.{common_steps}
use Rattle.glyph_sides.proofs.ShiftLemmas.{drop_further}
use Rattle.glyph_sides.proofs.merged_copies.write_merged.Goals as goal

pub returns-clause-input : goal.returns-clause-input
returns-clause-input c =
    let a = c.args in
    drop_further c.write_copies.new.info _ (a.gap.start + length a.ids.now) (a.gap.end + a.count) c.requires.room
    c.write_copies.ensures.behind
    ∙ sym (drop-drop a.count a.gap.end _)
    ∙ ap (drop a.count) (grind (arith, common_steps))
