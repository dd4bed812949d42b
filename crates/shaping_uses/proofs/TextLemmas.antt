-- A text that is pushed into a new buffer.
use Rattle.std.proofs.Common.{◌≡◌, ℕ, ◌<◌, ◌≤◌, ◌++◌, Bool, true, false, List, length, sym, ap, ◌∙◌, arith, leb}
use Rattle.std.proofs.Common.{length-append}
use Rattle.std.proofs.lemmas.Bool.{cond_both, leb-true, leb-false, false≢true}
use Rattle.std.specs.Str.{chars}
use Rattle.glyph_sides.specs.TextGlyphs.{glyphs_at}
use Rattle.glyph_sides.proofs.CharactersLemmas.{length_glyphs_at}
use Rattle.shaping_buffer.specs.State.{State}
use Rattle.shaping_buffer.specs.Step.{Outcome}
use Rattle.shaping_buffer.specs.Pushed.{pushed}

-- where it is done, there are as many glyphs as characters, and not too many
many : (text : List ℕ) (s : State) (m : ℕ) → length s.input ≡ 0 → s.max_len ≡ m → (pushed text s).done ≡ true
    → (length (pushed text s).state.input ≡ length (chars text)) × (length (chars text) ≤ m)
many text s m none limit =
    let l = glyphs_at 0 (chars text) in
    let n : length (s.input ++ l) ≡ length (chars text) =
    omega (arith, length-append s.input l, none, length_glyphs_at 0 (chars text)) in
    cond_both (leb (length (s.input ++ l)) s.max_len) _ _
    (λ (o : Outcome). o.done ≡ true → (length o.state.input ≡ length (chars text)) × (length (chars text) ≤ m))
    (λ fits _. (n, omega (arith, leb-true (length (s.input ++ l)) s.max_len fits, n, limit)))
    (λ _ off. absurd (false≢true off))

few : (text : List ℕ) (s : State) (m : ℕ) → length s.input ≡ 0 → s.max_len ≡ m → (pushed text s).done ≡ false
    → m < length (chars text)
few text s m none limit =
    let l = glyphs_at 0 (chars text) in
    let n : length (s.input ++ l) ≡ length (chars text) =
    omega (arith, length-append s.input l, none, length_glyphs_at 0 (chars text)) in
    cond_both (leb (length (s.input ++ l)) s.max_len) _ _
    (λ (o : Outcome). o.done ≡ false → m < length (chars text))
    (λ _ on. absurd (false≢true (sym on)))
    (λ long _. omega (arith, leb-false (length (s.input ++ l)) s.max_len long, n, limit))

-- what the answer says of the text
pub is_pushed : (text : List ℕ) (s new : State) (m : ℕ) (done : Bool) → length s.input ≡ 0 → s.max_len ≡ m
    → (done ≡ (pushed text s).done) × (new ≡ (pushed text s).state) → done ≡ true
    → (length new.input ≡ length (chars text)) × (length (chars text) ≤ m)
is_pushed text s new m done none limit meets on =
    let all = many text s m none limit (sym meets.0 ∙ on) in
    (ap (λ (t : State). length t.input) meets.1 ∙ all.0, all.1)

pub is_too_long : (text : List ℕ) (s new : State) (m : ℕ) (done : Bool) → length s.input ≡ 0 → s.max_len ≡ m
    → (done ≡ (pushed text s).done) × (new ≡ (pushed text s).state) → done ≡ false → m < length (chars text)
is_too_long text s new m done none limit meets off = few text s m none limit (sym meets.0 ∙ off)
