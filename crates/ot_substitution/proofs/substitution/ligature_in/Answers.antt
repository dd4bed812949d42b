use Rattle.std.proofs.Common.{◌<◌, arith}
use Rattle.std.proofs.lemmas.Grind.{common_steps}
use Rattle.font_tables.specs.Bytes.{number_16}
use Rattle.std.specs.Prelude.{unwrap_or}
use Rattle.ot_contexts.proofs.MatchLemmas.{first_is}
use Rattle.ot_substitution.proofs.substitution.ligature_in.Goals as goal

pub returns-in-Some-ligature_at-clause-is : goal.returns-in-Some-ligature_at-clause-is
returns-in-Some-ligature_at-clause-is c some =
    let inside : c.loop-index.index < unwrap_or (number_16 c.args.set.now 0) 0 = grind (arith, common_steps) in
    first_is _ _ _ _ _ (c.loop-index.invariant.1 (omega arith)) inside (c.in-Some-ligature_at.ensures.is some)
    c.in-Some-ligature_at.ensures.ligates
