use Rattle.glyph_laws.proofs.GlyphFlagsLemmas.{merge_keeps_flags, run_merge_keeps_flags, merge_or_mark_keeps_flags}
use Rattle.glyph_laws.proofs.GlyphFlagsLemmas.{deletion_keeps_flags, marked_keep_flags, mark_keeps_flags}
use Rattle.glyph_laws.proofs.GlyphFlagsLemmas.{mark_others_keeps_flags, end_mark_keeps_flags, mark_part_keeps_flags}
use Rattle.glyph_laws.proofs.GlyphFlagsLemmas.{new_part_keeps_flags}
use Rattle.glyph_laws.proofs.ReplacementLemmas.{replaced_keeps_flags}
use Rattle.glyph_laws.proofs.laws.flags_still_agree.Goals as goal

pub returns-clause-cluster_merge : goal.returns-clause-cluster_merge
returns-clause-cluster_merge c = merge_keeps_flags

pub returns-clause-run_merge : goal.returns-clause-run_merge
returns-clause-run_merge c = run_merge_keeps_flags

pub returns-clause-merge : goal.returns-clause-merge
returns-clause-merge c = merge_or_mark_keeps_flags

pub returns-clause-deletion : goal.returns-clause-deletion
returns-clause-deletion c = deletion_keeps_flags

pub returns-clause-replacement : goal.returns-clause-replacement
returns-clause-replacement c = replaced_keeps_flags

pub returns-clause-each : goal.returns-clause-each
returns-clause-each c = marked_keep_flags

pub returns-clause-mark : goal.returns-clause-mark
returns-clause-mark c = mark_keeps_flags

pub returns-clause-scan : goal.returns-clause-scan
returns-clause-scan c = end_mark_keeps_flags

pub returns-clause-part : goal.returns-clause-part
returns-clause-part c = mark_part_keeps_flags

pub returns-clause-others : goal.returns-clause-others
returns-clause-others c = mark_others_keeps_flags

pub returns-clause-range : goal.returns-clause-range
returns-clause-range c = new_part_keeps_flags
