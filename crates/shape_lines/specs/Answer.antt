-- What an answer reads as.
use Rattle.std.specs.Prelude.{ℕ, ◌≡◌, Bool, true, false, List, [], ◌∷◌, ◌++◌, string_bytes}
use Rattle.shape_lines.specs.declared.answers.Answer.{Answer}
use Rattle.shape_lines.specs.declared.answers.Answer.TheVariants.{Empty, Glyphs, Objects, Failed, Unverified}
use Rattle.shape_lines.specs.Lines.{failure_line, glyphs_in, unverified_line}
use Rattle.shape_options.specs.declared.output.OutputFormat.{OutputFormat}
use Rattle.rb_glyph.specs.declared.flag_sets.SerializeFlags.{SerializeFlags}
use Rattle.glyph_text.specs.Text.{Font}
use Rattle.shaping_buffer.specs.State.{State}

abbrev pub answer_text : Answer → List ℕ
answer_text Empty = []
answer_text (Glyphs text) = 91 ∷ string_bytes text ++ 93 ∷ []
answer_text (Objects objects) = 91 ∷ objects.items ++ 93 ∷ []
answer_text Failed = failure_line
answer_text (Unverified error) = unverified_line error

-- an answer reads as glyphs in this format, with these names and extents
abbrev pub IsIn : OutputFormat → SerializeFlags → Font → State → Answer → Type 0
IsIn format flags font glyphs answer = answer_text answer ≡ glyphs_in font format flags glyphs

-- whether a line with this answer was shaped
abbrev pub is_shaped : Answer → Bool
is_shaped Empty = true
is_shaped (Glyphs text) = true
is_shaped (Objects objects) = true
is_shaped Failed = false
is_shaped (Unverified error) = false
