use Rattle.glyph_laws.proofs.MarksLemmas.{end_mark_is_mark, append-mark_part}
use Rattle.glyph_laws.proofs.laws.end_scan_is_mark.Goals as goal

pub returns-clause-one : goal.returns-clause-one
returns-clause-one c = end_mark_is_mark

pub returns-clause-two : goal.returns-clause-two
returns-clause-two c = append-mark_part
