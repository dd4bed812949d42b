use Rattle.std.proofs.Common.{rules}
use Rattle.std.proofs.lemmas.List.Elements.{All-set}
use Rattle.ot_positions.specs.FontPositions.{IsKept}
use Rattle.ot_positions.proofs.kept_positions.FontPositions.position.Goals as goal

pub returns-2-clause-kept : goal.returns-2-clause-kept
returns-2-clause-kept g c =
    All-set (IsKept (g.F.FontFunctions.may_advance c.args.self.now.font.now) c.args.self.now.is_horizontal)
    c.args.self.now.kept _ _ (search rules) c.requires
