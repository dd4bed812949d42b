use Rattle.glyph_laws.proofs.ReadingsLemmas.{clusters-but_masks}
use Rattle.glyph_laws.proofs.MarksLemmas.{reset_masks-map_marked, reset_masks-mark, reset_masks-mark_others}
use Rattle.glyph_laws.proofs.MarksLemmas.{reset_masks-end_mark, reset_masks-mark_part, reset_masks-new_part}
use Rattle.glyph_laws.proofs.laws.marks_change_masks_alone.Goals as goal

pub returns-clause-each : goal.returns-clause-each
returns-clause-each c = reset_masks-map_marked

pub returns-clause-mark : goal.returns-clause-mark
returns-clause-mark c = reset_masks-mark

pub returns-clause-scan : goal.returns-clause-scan
returns-clause-scan c = reset_masks-end_mark

pub returns-clause-part : goal.returns-clause-part
returns-clause-part c = reset_masks-mark_part

pub returns-clause-others : goal.returns-clause-others
returns-clause-others c = reset_masks-mark_others

pub returns-clause-range : goal.returns-clause-range
returns-clause-range c = reset_masks-new_part

pub returns-clause-clusters : goal.returns-clause-clusters
returns-clause-clusters c = clusters-but_masks
