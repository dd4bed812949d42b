-- A move of the cursor, in the words of the two lists.
use Rattle.std.proofs.Common.{◌≡◌, ℕ, ◌+◌, ◌-◌, ◌≤◌, true, length, arith}
use Rattle.std.proofs.lemmas.Grind.{common_steps}
use Rattle.glyph_sides.proofs.ShiftLemmas.{take_past, drop_past}
use Rattle.shaping_buffer.specs.State.{State}
use Rattle.shaping_buffer.specs.Step.{move_to, next_glyphs}

-- a move forward puts out the glyphs in between
pub move_to-forward : (i : ℕ) (s : State) → s.have_output ≡ true → s.successful ≡ true → length s.out ≤ i
    → i ≤ length s.out + length s.input → move_to i s ≡ next_glyphs (i - length s.out) s
move_to-forward i s opened good ahead within = grind (arith, common_steps, take_past, drop_past)
