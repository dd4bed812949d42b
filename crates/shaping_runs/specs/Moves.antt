-- What a call does to the lengths of both sides, as a caller's loop counts them.
use Rattle.std.specs.Prelude.{◌≡◌, ℕ, ◌+◌, ◌-◌, ◌≤◌, false, length}
use Rattle.shaping_buffer.specs.State.{State}

-- So many glyphs are put out, and so many read.
pub record Moves (put read : ℕ) (old new : State) : Type 0 where
  pub out : length new.out ≡ length old.out + put
  pub input : length new.input ≡ length old.input - read
  pub idx : new.idx ≡ old.idx + read
  pub opened : new.have_output ≡ old.have_output
  -- what was put out in place stays there, unless more is put out than read
  pub in_place : put ≤ read → old.have_separate_output ≡ false → length old.out ≤ old.idx
      → new.have_separate_output ≡ false
  pub successful : new.successful ≡ old.successful
  pub max_len : new.max_len ≡ old.max_len
