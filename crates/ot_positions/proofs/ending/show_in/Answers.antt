use Rattle.ot_positions.specs.Ending.{shown_selector}
use Rattle.ot_positions.proofs.MappedLemmas.{keeps_mapped, shown_selector-cluster}
use Rattle.ot_positions.proofs.ending.show_in.Goals as goal

pub returns-clause-keeps : goal.returns-clause-keeps
returns-clause-keeps c =
    keeps_mapped (shown_selector c.args.glyph) c.args.buffer.now c.show_all.new.infos c.info_slice_mut.result.now
    c.info_slice_mut.ensures.value c.show_all.ensures (shown_selector-cluster c.args.glyph)
