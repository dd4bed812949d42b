use Rattle.std.proofs.Common.{rules, None}
use Rattle.std.proofs.lemmas.List.Elements.{All-replicate}
use Rattle.ot_positions.specs.FontPositions.{IsKept}
use Rattle.ot_positions.proofs.kept_positions.FontPositions.new.Goals as goal

pub returns-clause-kept : goal.returns-clause-kept
returns-clause-kept g c =
    All-replicate (IsKept (g.F.FontFunctions.may_advance c.args.font.now) c.args.is_horizontal) 256 None (search rules)
