-- Glyphs that a subtable puts in, by the calls of the buffer (Apple's TrueType Reference Manual, "Glyph Insertion Subtable").
use Rattle.std.specs.Prelude.{◌≡◌, ℕ, zero, suc, Bool, ◌||◌, List, [], ◌∷◌, ◌++◌, ◌*◌, min, length, nat_eq, slice_index_or, take, drop, unwrap_or, Result, IfOk, if◌then◌else◌}
use Rattle.std.specs.declared.alloc.AllocError.{AllocError}
use Rattle.font_tables.specs.Bytes.{number_16}
use Rattle.glyph_lists.specs.Clusters.{zero_glyph}
use Rattle.shaping_buffer.specs.State.{State}
use Rattle.shaping_buffer.specs.Step.{Outcome, output_glyph, replace_glyphs, unlimited}

-- so many glyphs from one on, and how many these are: none where the list does not hold all
abbrev pub inserted_glyphs : List ℕ → ℕ → ℕ → List ℕ
inserted_glyphs glyphs first count = take (2 * count) (drop (2 * first) glyphs)

abbrev pub inserted_count : List ℕ → ℕ → ℕ → ℕ
inserted_count glyphs first count = if nat_eq (length (inserted_glyphs glyphs first count)) (2 * count) then count else 0

-- the glyph at a place of a list, and the first glyphs
abbrev pub glyph_at : List ℕ → ℕ → ℕ
glyph_at glyphs place = unwrap_or (number_16 glyphs (2 * place)) 0

unfoldable pub first_glyphs : List ℕ → ℕ → List ℕ
first_glyphs glyphs zero = []
first_glyphs glyphs (suc n) = first_glyphs glyphs n ++ glyph_at glyphs n ∷ []

-- the second after the first, unless that was refused
abbrev pub then_do : Outcome → (State → Outcome) → Outcome
then_do first second = if first.done then second first.state else first

-- the answer is that of an outcome, and so is the state, unless memory ran out
pub record Gives (outcome : Outcome) (done : Bool) (new : State) : Type 0 where
  pub answer : done ≡ outcome.done
  pub state : new ≡ outcome.state

abbrev pub GivesOrWants : Outcome → Result Bool AllocError → State → Type 0
GivesOrWants outcome result new = IfOk result (λ done. Gives outcome done new)

-- a glyph of a list is put out, or the first ones, before the current glyph
unfoldable pub put_one : List ℕ → ℕ → State → Outcome
put_one glyphs place s = output_glyph (glyph_at glyphs place) s

unfoldable pub put_before : List ℕ → ℕ → State → Outcome
put_before glyphs zero s = unlimited s
put_before glyphs (suc n) s = then_do (put_before glyphs n s) (put_one glyphs n)

-- the current glyph is put out, and no more than 31 glyphs behind it, all in its cluster
unfoldable pub put_behind : List ℕ → ℕ → State → Outcome
put_behind glyphs count s =
    replace_glyphs 1 ((slice_index_or s.input 0 zero_glyph).glyph_id ∷ first_glyphs glyphs (min count 31)) s

-- glyphs are put in on a side of the current glyph: before it at the end of a text, where there is none
abbrev pub put_in : List ℕ → ℕ → Bool → State → Outcome
put_in glyphs count is_before s =
    if nat_eq (length s.input) 0 || is_before then put_before glyphs count s else put_behind glyphs count s
