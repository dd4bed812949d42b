use Rattle.shaping_runs.proofs.CallerLaws.{next_glyphs_moves, skip_glyph_moves, replace_glyph_moves}
use Rattle.shaping_runs.proofs.CallerLaws.{replace_glyphs_moves, output_glyph_moves, output_info_moves}
use Rattle.shaping_runs.proofs.CallerLaws.{copy_glyph_moves, delete_glyph_moves}
use Rattle.shaping_runs.proofs.caller_laws.cursor_calls_move_glyphs.Goals as goal

pub returns-clause-next_glyph : goal.returns-clause-next_glyph
returns-clause-next_glyph c = λ s. next_glyphs_moves s 1

pub returns-clause-next_glyphs : goal.returns-clause-next_glyphs
returns-clause-next_glyphs c = λ n s. next_glyphs_moves s n

pub returns-clause-skip_glyph : goal.returns-clause-skip_glyph
returns-clause-skip_glyph c = skip_glyph_moves

pub returns-clause-replace_glyph : goal.returns-clause-replace_glyph
returns-clause-replace_glyph c = λ id s opened. replace_glyph_moves s id opened

pub returns-clause-replace_glyphs : goal.returns-clause-replace_glyphs
returns-clause-replace_glyphs c = λ n ids s. replace_glyphs_moves s n ids

pub returns-clause-output_glyph : goal.returns-clause-output_glyph
returns-clause-output_glyph c = λ id s. output_glyph_moves s id

pub returns-clause-output_info : goal.returns-clause-output_info
returns-clause-output_info c = λ g s. output_info_moves s g

pub returns-clause-copy_glyph : goal.returns-clause-copy_glyph
returns-clause-copy_glyph c = copy_glyph_moves

pub returns-clause-delete_glyph : goal.returns-clause-delete_glyph
returns-clause-delete_glyph c = λ s. delete_glyph_moves s
