use Rattle.std.proofs.Common.{◌≤◌, arith, subst}
use Rattle.std.proofs.lemmas.Grind.{common_steps}
use Rattle.font_tables.specs.Bytes.{number_16}
use Rattle.std.specs.Prelude.{unwrap_or}
use Rattle.ot_lookups.specs.Seconds.{HasSecondOfEach}
use Rattle.ot_lookups.proofs.SecondsLemmas.{each_set, one_more_set}
use Rattle.ot_lookups.proofs.seconds.seconds_of.Goals as goal

pub loop-index-preserved : goal.loop-index-preserved
loop-index-preserved c =
    let here =
    subst (λ set. HasSecondOfEach set c.add_seconds.new.digest) c.set_at.ensures
    (c.add_seconds.ensures.added c.if-not-add_seconds.false) in
    one_more_set c.args.table.now c.loop-index.digest c.add_seconds.new.digest c.loop-index.index
    c.add_seconds.ensures.kept here c.loop-index.invariant

pub returns : goal.returns
returns c = λ d same index.
    let end : unwrap_or (number_16 c.args.table.now 4) 0 ≤ c.loop-index.index = grind (arith, common_steps) in
    each_set c.args.table.now c.loop-index.digest d c.loop-index.index index c.loop-index.invariant end same
