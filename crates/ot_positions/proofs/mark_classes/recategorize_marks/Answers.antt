use Rattle.ot_positions.specs.FallbackMarks.{recategorized}
use Rattle.ot_positions.proofs.MappedLemmas.{keeps_mapped, recategorized-cluster}
use Rattle.ot_positions.proofs.mark_classes.recategorize_marks.Goals as goal

pub returns-clause-keeps : goal.returns-clause-keeps
returns-clause-keeps c =
    keeps_mapped recategorized c.args.buffer.now c.recategorize_all.new.infos c.info_slice_mut.result.now
    c.info_slice_mut.ensures.value c.recategorize_all.ensures recategorized-cluster
