use Rattle.script_items.proofs.MoveLemmas.{merged_out_is_one, length-merged_out}
use Rattle.script_items.proofs.moves.merge_out.Goals as goal

pub returns-clause-length : goal.returns-clause-length
returns-clause-length c =
    length-merged_out c.args.start c.args.end c.args.buffer.now c.merge_out_clusters.new.self
    c.merge_out_clusters.ensures.is

pub returns-clause-one : goal.returns-clause-one
returns-clause-one c =
    merged_out_is_one c.args.start c.args.end c.args.buffer.now c.merge_out_clusters.new.self c.requires.within
    c.merge_out_clusters.ensures.is
