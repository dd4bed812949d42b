-- What a subtable makes of its glyph, by its kind.
use Rattle.std.specs.Prelude.{ℕ, true, false, List, Option}
use Rattle.rb_glyph.specs.declared.info.hb_glyph_info_t.{hb_glyph_info_t}
use Rattle.ot_lookups.specs.declared.subtable_kind.SubtableKind.{SubtableKind}
use Rattle.ot_lookups.specs.declared.subtable_kind.SubtableKind.TheVariants.{CursiveAttachment, MarkToBase, MarkToLigature, MarkToMark, PairAdjustment, SingleAdjustment}
use Rattle.shaping_buffer.specs.State.{State}
use Rattle.ot_gpos.specs.Adjustments.{single, single_next}
use Rattle.ot_gpos.specs.Attachments.{base_of, base_sought, ligature_of, mark_next, mark_of, mark_placed}
use Rattle.ot_gpos.specs.Cursive.{cursive_next, cursive_placed, join_of}
use Rattle.ot_gpos.specs.PairAdjustments.{pair, pair_next}
use Rattle.ot_gpos.specs.declared.attachment.AttachmentFound.{AttachmentFound}
use Rattle.ot_gpos.specs.declared.attachment.AttachmentFound.TheVariants.{Nothing}
use Rattle.ot_gpos.specs.declared.marks.LastBase.{LastBase}
use Rattle.ot_gpos.specs.Visit.{Visit}

-- what is remembered of bases behind the glyph
abbrev pub bases_at : SubtableKind → Visit → List hb_glyph_info_t → LastBase → LastBase
bases_at MarkToBase visit gs last = base_sought true visit gs last
bases_at MarkToLigature visit gs last = base_sought false visit gs last
bases_at _ visit gs last = last

-- where a subtable of marks attaches its mark
abbrev pub attachment_at : SubtableKind → Visit → List hb_glyph_info_t → LastBase → AttachmentFound
attachment_at MarkToBase visit gs last = base_of visit gs (base_sought true visit gs last)
attachment_at MarkToLigature visit gs last = ligature_of visit gs (base_sought false visit gs last)
attachment_at MarkToMark visit gs last = mark_of visit gs
attachment_at _ visit gs last = Nothing

-- A subtable that is no context adjusts its glyph, adjusts it with the next one, joins it to the one before, or attaches it; one of
-- `GSUB` does nothing.
abbrev pub simple_at : SubtableKind → Visit → LastBase → State → State
simple_at SingleAdjustment visit last s = single visit s
simple_at (PairAdjustment format) visit last s = pair visit s
simple_at CursiveAttachment visit last s = cursive_placed visit (join_of visit s.input) s
simple_at kind visit last s = mark_placed visit.place (attachment_at kind visit s.input last) s

-- and where the lookup goes on, if the subtable was for the glyph
abbrev pub simple_next : SubtableKind → Visit → LastBase → State → Option ℕ
simple_next SingleAdjustment visit last s = single_next visit
simple_next (PairAdjustment format) visit last s = pair_next visit s
simple_next CursiveAttachment visit last s = cursive_next visit (join_of visit s.input)
simple_next kind visit last s = mark_next visit.place (attachment_at kind visit s.input last)
