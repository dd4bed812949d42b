use Rattle.std.proofs.Common.{◌≤◌}
use Rattle.script_letters.proofs.ThaiLemmas.{AreAbove}
use Rattle.script_letters.proofs.thai.sara_am.run_start.Given as goal

abbrev pub invariant-loop-start : goal.invariant-loop-start
invariant-loop-start l = (l.start ≤ l.end) × AreAbove l.infos l.start l.end

abbrev pub decreases-loop-start : goal.decreases-loop-start
decreases-loop-start l = l.start
