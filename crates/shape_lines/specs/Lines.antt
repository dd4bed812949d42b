-- The lines of a text, and what answers them.
use Rattle.std.specs.Prelude.{ℕ, ◌+◌, ◌≡◌, ◌==◌, ◌⊎◌, ⊤, List, [], ◌∷◌, ◌++◌, length, flat_map, Bool, true, false, codes}
use Rattle.std.specs.Prelude.{Option, Some, None, if◌then◌else◌}
use Rattle.std.specs.Io.KnownBytes.{Appends}
use Rattle.rb_glyph.specs.declared.flag_sets.SerializeFlags.{SerializeFlags}
use Rattle.rb_glyph.specs.declared.info.hb_glyph_info_t.{hb_glyph_info_t}
use Rattle.glyph_text.specs.Text.{Font}
use Rattle.shaping_verification.specs.declared.verification.VerifyError.{VerifyError}
use Rattle.shaping_verification.specs.declared.verification.VerifyError.TheVariants.{NotMonotone, UnsafeToBreak, UnsafeToConcat}
use Rattle.shaping_buffer.specs.State.{State}
use Rattle.shaping_buffer.specs.Text.{glyphs_of, text_of}
use Rattle.line_formats.specs.Json.{glyphs_json}
use Rattle.line_formats.specs.Characters.{characters_list}
use Rattle.line_formats.specs.Heads.{head}
use Rattle.shape_lines.specs.Reading.{seen}
use Rattle.shape_lines.specs.declared.reading.Reading.{Reading}
use Rattle.shape_options.specs.declared.output.Output.{Output}
use Rattle.shape_options.specs.declared.output.OutputFormat.{OutputFormat}
use Rattle.shape_options.specs.declared.output.OutputFormat.TheVariants.{Text, Json, Nothing}

-- a byte at the front of the first line
abbrev pub with_first : ℕ → List (List ℕ) → List (List ℕ)
with_first b [] = (b ∷ []) ∷ []
with_first b (line ∷ lines) = (b ∷ line) ∷ lines

-- the lines of a text: a line feed ends a line, and the last line may lack it
abbrev pub lines_of : List ℕ → List (List ℕ)
lines_of [] = []
lines_of (b ∷ bytes) = if b == 10 then [] ∷ lines_of bytes else with_first b (lines_of bytes)

-- Where the bytes of a text are known: a line was taken from the front of what is seen of it, or there was none.
abbrev pub TakesLine : Reading → Bool → Option (List ℕ) → Option (List ℕ) → List ℕ → Type 0
TakesLine reading found None after line = ⊤
TakesLine reading found (Some text) None line = ⊥
TakesLine reading true (Some text) (Some rest) line = lines_of (seen reading text) ≡ line ∷ lines_of (seen reading rest)
TakesLine reading false (Some text) (Some rest) line = (seen reading text ≡ []) × (rest ≡ [])

-- ---- the answers

-- glyphs in a format: their text in brackets, or their objects
abbrev pub glyphs_in : Font → OutputFormat → SerializeFlags → State → List ℕ
glyphs_in font Text flags s = 91 ∷ text_of font flags s ++ 93 ∷ []
glyphs_in font Json flags s = 91 ∷ glyphs_json font flags (glyphs_of s) ++ 93 ∷ []
glyphs_in font Nothing flags s = []

-- what is printed of glyphs, and nothing where there are none
abbrev pub glyphs_line : Font → Output → State → List ℕ
glyphs_line font o s = if length s.input == 0 then [] else glyphs_in font o.format o.flags s

-- what is printed of a line that was too long
abbrev pub failure_line : List ℕ
failure_line = codes "error: Shaping failed."

-- what is printed of a line whose glyphs are not what they say of themselves
abbrev pub unverified_line : VerifyError → List ℕ
unverified_line NotMonotone = codes "error: buffer verify error: clusters are not monotone."
unverified_line UnsafeToBreak = codes "error: buffer verify error: unsafe-to-break test failed."
unverified_line UnsafeToConcat = codes "error: buffer verify error: unsafe-to-concat test failed."

-- glyphs with names and extents are printed; which they are is not said here
abbrev pub PrintsGlyphs : Output → List ℕ → Type 0
PrintsGlyphs o answer = (font : Font) × (glyphs : State) × (answer ≡ glyphs_line font o glyphs)

-- a test of glyphs is said to have failed
abbrev pub IsUnverified : List ℕ → Type 0
IsUnverified answer = (error : VerifyError) × (answer ≡ unverified_line error)

-- a line is answered with glyphs, or as too long, or with the test of its glyphs that failed
abbrev pub IsAnswer : Output → List ℕ → Type 0
IsAnswer o answer = PrintsGlyphs o answer ⊎ ((answer ≡ failure_line) ⊎ IsUnverified answer)

-- a list of characters; which they are is not said here
abbrev pub IsList : List ℕ → Type 0
IsList characters = (infos : List hb_glyph_info_t) × (characters ≡ characters_list infos)

-- the steps of shaping, as standard error is told them; which they are is not said here, and none are where they are not asked for
abbrev pub IsTrace : Output → List ℕ → Type 0
IsTrace o trace = o.trace ≡ false → trace ≡ []

-- the answer to the line of this number, with what is shown before it
pub record IsShown (o : Output) (n : ℕ) (line shown : List ℕ) : Type 0 where
  pub characters : List ℕ
  pub answer : List ℕ
  pub is_list : IsList characters
  pub is_answer : IsAnswer o answer
  pub is : shown ≡ head o.shown n line characters ++ answer

-- what a writer holds grows by the answer to the line of this number, and a line feed
abbrev pub Shows : (ℕ → List ℕ → List ℕ → Type 0) → ℕ → List ℕ → Option (List ℕ) → Option (List ℕ) → Type 0
Shows is_answer n line before after = (answer : List ℕ) × is_answer n line answer × Appends before after (answer ++ 10 ∷ [])

-- each line has its answer, in turn; the first has this number
abbrev pub EachAnswered : (ℕ → List ℕ → List ℕ → Type 0) → ℕ → List (List ℕ) → List (List ℕ) → Type 0
EachAnswered is_answer n [] [] = ⊤
EachAnswered is_answer n (line ∷ lines) (answer ∷ answers) =
    is_answer n line answer × EachAnswered is_answer (n + 1) lines answers
EachAnswered is_answer n [] (answer ∷ answers) = ⊥
EachAnswered is_answer n (line ∷ lines) [] = ⊥

-- each answer, and a line feed
abbrev pub transcript : List (List ℕ) → List ℕ
transcript answers = flat_map (λ answer. answer ++ 10 ∷ []) answers

-- lines are answered, and what a writer holds grows by their answers
pub record AnswersLines (is_answer : ℕ → List ℕ → List ℕ → Type 0) (lines : List (List ℕ)) (before after : Option (List ℕ)) : Type 0 where
  pub answers : List (List ℕ)
  pub each : EachAnswered is_answer 1 lines answers
  pub told : Appends before after (transcript answers)

-- the same of all lines that are left of a text, where its bytes are known
abbrev pub AnswersAll : Reading → (ℕ → List ℕ → List ℕ → Type 0) → Option (List ℕ) → Option (List ℕ) → Option (List ℕ)
    → Option (List ℕ) → Type 0
AnswersAll reading is_answer None rest before after = ⊤
AnswersAll reading is_answer (Some text) None before after = ⊥
AnswersAll reading is_answer (Some text) (Some rest) before after =
    (rest ≡ []) × AnswersLines is_answer (lines_of (seen reading text)) before after

-- a text that is one line, unless it is empty
abbrev pub paragraph_of : List ℕ → List (List ℕ)
paragraph_of [] = []
paragraph_of (b ∷ bytes) = (b ∷ bytes) ∷ []

abbrev pub AnswersParagraph : Reading → (ℕ → List ℕ → List ℕ → Type 0) → Option (List ℕ) → Option (List ℕ) → Option (List ℕ)
    → Option (List ℕ) → Type 0
AnswersParagraph reading is_answer None rest before after = ⊤
AnswersParagraph reading is_answer (Some text) None before after = ⊥
AnswersParagraph reading is_answer (Some text) (Some rest) before after =
    (rest ≡ []) × AnswersLines is_answer (paragraph_of (seen reading text)) before after
