use Rattle.std.proofs.Common.{◌<◌, arith}
use Rattle.std.proofs.lemmas.Grind.{common_steps}
use Rattle.ot_lookups.proofs.SecondsLemmas.{one_more}
use Rattle.ot_lookups.proofs.seconds.add_seconds.Goals as goal

pub loop-index-preserved : goal.loop-index-preserved
loop-index-preserved c =
    let kept = c.add_second_at.ensures.kept in (
      (λ g has. kept g (c.loop-index.invariant.0 g has)),
      one_more c.args.set.now c.loop-index.digest c.add_second_at.new.digest c.loop-index.index kept
          (c.add_second_at.ensures.added c.if-not-add_second_at.false) c.loop-index.invariant.1,
    )

pub returns-clause-added : goal.returns-clause-added
returns-clause-added c = λ yes k less.
    let inside : k < c.loop-index.index = grind (arith, common_steps, less) in
    c.loop-index.invariant.1 k inside
