use Rattle.std.proofs.Common.{rules, ◌≡◌, true, false}
use Rattle.shape_answers.proofs.LineLemmas.{so_far-none, so_far-found, so_far-not_found}
use Rattle.shape_answers.proofs.lines.answer_lines.Goals as goal

pub loop-number-init : goal.loop-number-init
loop-number-init g c = so_far-none _ _ _ _

pub returns-then-not-found : goal.returns-then-not-found
returns-then-not-found g c =
    let none : c.in_ok-found.found ≡ false = search rules in
    so_far-not_found _ _ _ _ _ _ _ _ _ _ c.loop-number.invariant c.in_ok-found.ensures none

pub loop-number-preserved : goal.loop-number-preserved
loop-number-preserved g c =
    let some : c.in_ok-found.found ≡ true = search rules in
    so_far-found _ _ _ _ _ _ _ _ _ _ _ _ c.loop-number.invariant c.in_ok-found.ensures some c.as_slice.ensures.value
    c.in_ok-is_shaped.ensures
