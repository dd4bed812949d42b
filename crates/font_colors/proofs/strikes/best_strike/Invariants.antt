use Rattle.std.proofs.Common.{◌≡◌}
use Rattle.font_colors.specs.Strikes.{best_strike}
use Rattle.font_colors.proofs.strikes.best_strike.Given as goal

-- the best of the strikes so far
abbrev pub invariant-loop-strike : goal.invariant-loop-strike
invariant-loop-strike g l = l.best ≡ best_strike (g.S.Strikes.size_of l.strikes) l.wanted l.strike
