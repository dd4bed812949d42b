use Rattle.std.proofs.Common.{◌≡◌, ◌∙◌, [], length, ap, arith}
use Rattle.std.proofs.lemmas.Grind.{common_steps}
use Rattle.shaping_buffer.specs.State.{State}
use Rattle.shaping_buffer.proofs.GroupStepLemmas.{length_merged}
use Rattle.script_items.proofs.MoveLemmas.{merged_input_is_one}
use Rattle.script_items.proofs.moves.merge.Goals as goal

pub returns-clause-length : goal.returns-clause-length
returns-clause-length c =
    ap (λ (t : State). length t.input) c.merge_clusters.ensures.is
    ∙ length_merged c.args.start c.args.end c.args.buffer.now

pub returns-clause-one : goal.returns-clause-one
returns-clause-one c =
    let none : c.args.buffer.now.out ≡ [] = grind (arith, common_steps) in
    merged_input_is_one c.args.start c.args.end c.args.buffer.now c.merge_clusters.new.self c.requires.closed none
    c.requires.within c.merge_clusters.ensures.is
