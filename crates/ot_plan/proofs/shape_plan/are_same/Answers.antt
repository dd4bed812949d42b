use Rattle.std.proofs.Common.{rules}
use Rattle.std.proofs.lemmas.Slice.Eq.{slice_eq-Decides}
use Rattle.ot_plan.proofs.shape_plan.are_same.Goals as goal

pub returns : goal.returns
returns c =
    let d = slice_eq-Decides (λ a b. search rules) c.args.one.now c.args.other.now c.eq.result c.eq.ensures in
    (d.0, d.1)
