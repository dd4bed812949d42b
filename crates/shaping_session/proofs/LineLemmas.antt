-- The lines of an input.
use Rattle.std.proofs.Common.{ℕ, suc, ◌≡◌, ◌+◌, ◌<◌, List, [], ◌∷◌, length, Bool, true, false, refl, sym, ap, ◌∙◌}
use Rattle.std.proofs.Common.{arith}
use Rattle.std.specs.List.{after_first, before_first, position_or_len}
use Rattle.shaping_session.specs.Transcript.{lines_of, with_first}
use Rattle.shaping_session.specs.Replies.{is_line_feed}

-- the first that passes is not at the front
after_first-skip : (p : ℕ → Bool) (b : ℕ) (rest : List ℕ) → p b ≡ false → after_first p (b ∷ rest) ≡ after_first p rest
after_first-skip p b rest h =
    let e : 1 + position_or_len p rest + 1 ≡ suc (position_or_len p rest + 1) = omega arith in rw (h, e) refl

before_first-skip : (p : ℕ → Bool) (b : ℕ) (rest : List ℕ) → p b ≡ false
    → before_first p (b ∷ rest) ≡ b ∷ before_first p rest
before_first-skip p b rest h =
    let e : 1 + position_or_len p rest ≡ suc (position_or_len p rest) = omega arith in rw (h, e) refl

-- the first line, and the lines behind it
pub lines_of-first : (bytes : List ℕ) → 0 < length bytes
    → lines_of bytes ≡ before_first is_line_feed bytes ∷ lines_of (after_first is_line_feed bytes)
lines_of-first [] h = absurd (omega (arith, h))
lines_of-first (b ∷ []) h = cases (is_line_feed b) refl
  where
    cases : (v : Bool) → is_line_feed b ≡ v
        → lines_of (b ∷ []) ≡ before_first is_line_feed (b ∷ []) ∷ lines_of (after_first is_line_feed (b ∷ []))
    cases true e = rw e refl
    cases false e = rw e refl
lines_of-first (b ∷ c ∷ rest) h = cases (is_line_feed b) refl (lines_of-first (c ∷ rest) (omega arith))
  where
    cases : (v : Bool) → is_line_feed b ≡ v
        → lines_of (c ∷ rest) ≡ before_first is_line_feed (c ∷ rest) ∷ lines_of (after_first is_line_feed (c ∷ rest))
        → lines_of (b ∷ c ∷ rest) ≡ before_first is_line_feed (b ∷ c ∷ rest)
        ∷ lines_of (after_first is_line_feed (b ∷ c ∷ rest))
    cases true e more = rw e refl
    cases false e more =
        let goes_on : lines_of (b ∷ c ∷ rest) ≡ with_first b (lines_of (c ∷ rest)) = rw e refl in
        goes_on ∙ ap (with_first b) more
        ∙ ap (λ line. line ∷ lines_of (after_first is_line_feed (c ∷ rest)))
        (sym (before_first-skip is_line_feed b (c ∷ rest) e))
        ∙ ap (λ bytes. before_first is_line_feed (b ∷ c ∷ rest) ∷ lines_of bytes)
        (sym (after_first-skip is_line_feed b (c ∷ rest) e))
