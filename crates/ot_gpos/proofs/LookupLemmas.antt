-- A subtable at a glyph.
use Rattle.std.proofs.Common.{◌≡◌, ℕ, Bool, true, false, Option, None, Some, is_some, IsTrue, refl}

-- one that may not be for a glyph does not cover it
pub uncovered : (index : Option ℕ) (may : Bool) → (is_some index ≡ true → IsTrue may) → may ≡ false → index ≡ None
uncovered None may is not_it = refl
uncovered (Some i) may is not_it = let may_be = is refl in cc
