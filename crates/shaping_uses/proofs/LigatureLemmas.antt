-- The lengths of both sides after a ligature: its merge keeps them, one glyph is put out and two are read.
use Rattle.std.proofs.Common.{◌≡◌, ◌-◌, List, length, drop, length-append, length-drop}
use Rattle.std.proofs.lemmas.List.{length-take-le}
use Rattle.rb_glyph.specs.declared.info.hb_glyph_info_t.{hb_glyph_info_t}
use Rattle.glyph_lists.proofs.LengthsLemmas.{length-merge_or_mark}
use Rattle.shaping_runs.proofs.CallerLaws.{lengths}

-- `length-drop` at a number that is written in the code
pub length_behind_two : (l : List hb_glyph_info_t) → length (drop 2 l) ≡ length l - 2
length_behind_two l = length-drop 2 l

pub ruleset ligature_lengths =
    (lengths, length-merge_or_mark, length-append, length-take-le, length-drop, length_behind_two)
