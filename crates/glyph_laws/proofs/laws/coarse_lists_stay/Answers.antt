use Rattle.glyph_lists.specs.Parts.{part}
use Rattle.glyph_laws.proofs.OrderLemmas.{run_merge_keeps_coarse}
use Rattle.glyph_laws.proofs.ReadingsLemmas.{coarse_reading, reading_part, reading_but_masks}
use Rattle.glyph_laws.proofs.DeletionLemmas.{merged_keeps_coarse, deleted_keeps_coarse}
use Rattle.glyph_laws.proofs.ReplacementLemmas.{replaced_keeps_coarse}
use Rattle.glyph_laws.proofs.laws.coarse_lists_stay.Goals as goal

pub returns-clause-run_merge : goal.returns-clause-run_merge
returns-clause-run_merge c = run_merge_keeps_coarse

pub returns-clause-merge : goal.returns-clause-merge
returns-clause-merge c = merged_keeps_coarse

pub returns-clause-deletion : goal.returns-clause-deletion
returns-clause-deletion c = deleted_keeps_coarse

pub returns-clause-replacement : goal.returns-clause-replacement
returns-clause-replacement c = replaced_keeps_coarse

pub returns-clause-range : goal.returns-clause-range
returns-clause-range c = λ l p q in_l. coarse_reading l (part l p q) (reading_part l p q in_l)

pub returns-clause-masks : goal.returns-clause-masks
returns-clause-masks c = λ l m same. coarse_reading l m (reading_but_masks l m same)
