use Rattle.std.proofs.Common.{ap, arith, ◌∙◌}
use Rattle.std.proofs.lemmas.Grind.{common_steps}
use Rattle.ot_gsub.proofs.BufferLemmas.{with_input_whole}
use Rattle.ot_apply.specs.ClusterOrder.{rising}
use Rattle.ot_apply.proofs.RisingLemmas.{length-rising, rises_written, numbers_written}
use Rattle.ot_apply.proofs.cluster_order.raise.Goals as goal

pub returns-clause-rises : goal.returns-clause-rises
returns-clause-rises c =
    rises_written c.args.buffer.now c.raise_all.new.infos c.info_slice_mut.result.now c.info_slice_mut.ensures.value
    c.raise_all.ensures.clusters (grind (arith, common_steps))

pub returns-clause-numbers : goal.returns-clause-numbers
returns-clause-numbers c =
    numbers_written c.args.buffer.now c.raise_all.new.infos c.info_slice_mut.result.now c.info_slice_mut.ensures.value
    c.raise_all.ensures.clusters (grind (arith, common_steps))

pub returns-clause-is : goal.returns-clause-is
returns-clause-is c =
    let s = c.args.buffer.now in
    with_input_whole s c.raise_all.new.infos (rising s.input) (c.raise_all.ensures.is ∙ ap rising c.info_slice_mut.ensures.value)
    (length-rising s.input)
