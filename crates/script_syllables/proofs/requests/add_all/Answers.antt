use Rattle.std.proofs.Common.{[], false, ◌∙◌}
use Rattle.ot_map.specs.Asked.{of_some}
use Rattle.ot_map.proofs.AskedLemmas.{asks_more}
use Rattle.script_syllables.proofs.requests.add_all.Goals as goal

pub loop-name-preserved : goal.loop-name-preserved
loop-name-preserved c =
    let before = c.loop-name.invariant.pauses in
    let same = c.add_one.ensures.pauses in
    record {
      pauses = (same.0 ∙ before.0, same.1 ∙ before.1, same.2 ∙ before.2);
      asks = asks_more (λ it. of_some c.args.flags it.1 it.0.now) c.args.features.now c.loop-name.name-index
          (record { ref_ptr = (0, 0); now = [] }, false)
          c.args.builder.now c.loop-name.builder c.add_one.new.builder c.loop-name-test.true c.loop-name.invariant.asks
          c.in_ok-add_one.ensures.asks;
    }
