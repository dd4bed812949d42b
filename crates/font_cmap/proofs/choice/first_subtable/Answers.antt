use Rattle.std.proofs.Common.{sym, ap, ◌∙◌}
use Rattle.std.specs.Option.{option_copied}
use Rattle.font_cmap.proofs.First.{first_here, first_behind, first_end}
use Rattle.font_cmap.proofs.choice.first_subtable.Goals as goal

pub returns-in-Some : goal.returns-in-Some
returns-in-Some c =
    let is = sym c.subtable_of.ensures ∙ ap option_copied c.in-Some.is in
    sym (sym c.loop-encoding.invariant ∙ first_here _ _ _ _ c.loop-encoding-test.true is)

pub loop-encoding-preserved : goal.loop-encoding-preserved
loop-encoding-preserved c =
    let is = sym c.subtable_of.ensures ∙ ap option_copied c.in_default.is in
    sym (first_behind _ _ _ c.loop-encoding-test.true is) ∙ c.loop-encoding.invariant

pub returns : goal.returns
returns c = sym (sym c.loop-encoding.invariant ∙ first_end _ _ _ c.loop-encoding-test.false)
