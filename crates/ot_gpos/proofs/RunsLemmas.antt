-- A lookup over a text, from what the functions that walk it answer.
use Rattle.std.proofs.Common.{◌≡◌, ℕ, zero, suc, ◌+◌, ◌-◌, ◌<◌, ◌≤◌, Bool, true, false, List, length, min}
use Rattle.std.proofs.Common.{refl, sym, ap, subst, ◌∙◌, inl, inr, arith}
use Rattle.std.proofs.lemmas.Bool.{cases_lt, cond-false, false≢true}
use Rattle.std.proofs.lemmas.List.{length-map}
use Rattle.rb_glyph.specs.declared.info.hb_glyph_info_t.{hb_glyph_info_t}
use Rattle.shaping_buffer.specs.State.{State, len}
use Rattle.ot_lookups.specs.Lookup.{is_for}
use Rattle.ot_lookups.specs.LookupProps.{glyph_at}
use Rattle.ot_attachments.specs.Flags.{untouched, without_flags}
use Rattle.ot_gpos.specs.Lookups.{Applied, Outcome, Text}
use Rattle.ot_gpos.specs.Nested.{IsTried}
use Rattle.ot_gpos.specs.Runs.{AreDoneBefore, IsGlyphDone, Run, place_after, run}

-- ---- the number of glyphs

pub len_closed : (s : State) → s.have_output ≡ false → len s ≡ length s.input
len_closed s closed = cond-false _ _ _ closed

pub same_length : (s t : State) → untouched t ≡ untouched s → length t.input ≡ length s.input
unfolding untouched
same_length s t same =
    sym (length-map t.input without_flags) ∙ ap (λ (u : State). length u.input) same ∙ length-map s.input without_flags

-- ---- glyphs in order

module _ (a : Applied) (old : Text) where
  abbrev is_taken : hb_glyph_info_t → Bool
  is_taken = is_for a.lookup a.options.mask

  pub done_first : AreDoneBefore a 0 old (run old 0)
  unfolding AreDoneBefore
  done_first = refl

  pub done_more : (place : ℕ) (w v : Run) → AreDoneBefore a place old w → IsGlyphDone a place w v
      → AreDoneBefore a (suc place) old v
  unfolding AreDoneBefore
  done_more place w v before last = record { mid = w; before = before; last = last }

  -- glyphs of which nothing comes
  stays : (n from to : ℕ) (w : Run) → to ≡ from + n → ((k : ℕ) → from ≤ k → k < to → IsGlyphDone a k w w)
      → AreDoneBefore a from old w → AreDoneBefore a to old w
  stays zero from to w e none is =
      let here : from ≡ to = omega (arith, e) in
      subst (λ (k : ℕ). AreDoneBefore a k old w) here is
  stays (suc n) from to w e none is =
      let end : suc (from + n) ≡ to = omega (arith, e) in
      let before : AreDoneBefore a (from + n) old w =
      stays n from (from + n) w refl (λ k low less. none k low (omega (arith, less, e))) is in
      subst (λ (k : ℕ). AreDoneBefore a k old w) end
      (done_more (from + n) w w before (none (from + n) (omega arith) (omega (arith, e))))

  pub nothing_before : (k next : ℕ) (t : Text) → k < next → IsGlyphDone a k (run t next) (run t next)
  nothing_before k next t less = record {
    before = λ _. refl;
    other = λ _ _. refl;
    here = λ up takes. absurd (omega (arith, less, up));
  }

  pub nothing_of : (k next : ℕ) (t : Text) → is_taken (glyph_at t.buffer.input k) ≡ false
      → IsGlyphDone a k (run t next) (run t next)
  nothing_of k next t none = record {
    before = λ _. refl;
    other = λ _ _. refl;
    here = λ up takes. absurd (false≢true (sym none ∙ takes));
  }

  pub done_of : (k next new : ℕ) (t : Text) (o : Outcome) → next ≤ k → is_taken (glyph_at t.buffer.input k) ≡ true
      → IsTried 64 a k t o → new ≡ place_after k o.next → IsGlyphDone a k (run t next) (run o.text new)
  done_of k next new t o up takes tried on = record {
    before = λ less. absurd (omega (arith, less, up));
    other = λ _ none. absurd (false≢true (sym none ∙ takes));
    here = λ _ _. record { outcome = o; tried = tried; goes_on = ap (run o.text) on };
  }

  -- ---- a lookup on its way

  -- the glyphs before the place where the lookup goes on are done
  abbrev pub IsUnderWay : ℕ → Text → Type 0
  IsUnderWay next t = AreDoneBefore a (min next (length old.buffer.input)) old (run t next)

  pub under_way-first : IsUnderWay 0 old
  under_way-first =
      let none : 0 ≡ min 0 (length old.buffer.input) = omega arith in
      subst (λ (k : ℕ). AreDoneBefore a k old (run old 0)) none done_first

  -- the glyphs up to a place are passed over
  up_to : (to next : ℕ) (t : Text) → IsUnderWay next t → min next (length old.buffer.input) ≤ to
      → ((k : ℕ) → next ≤ k → k < to → is_taken (glyph_at t.buffer.input k) ≡ false) → AreDoneBefore a to old (run t next)
  up_to to next t is up none =
      stays (to - min next (length old.buffer.input)) (min next (length old.buffer.input)) to (run t next) (omega (arith, up))
      (λ k low less. elim (cases_lt k next) [
        | inl before ↦ nothing_before k next t before
        | inr after ↦ nothing_of k next t (none k after less)
      ]) is

  -- the glyph at a place is done, and those before it are passed over
  pub under_way-next : (next place new : ℕ) (t : Text) (gs : List hb_glyph_info_t) (o : Outcome)
      → IsUnderWay next t → length t.buffer.input ≡ length old.buffer.input → gs ≡ t.buffer.input
      → min next (length gs) ≤ place → place < length gs
      → ((k : ℕ) → next ≤ k → k < place → is_taken (glyph_at gs k) ≡ false) → is_taken (glyph_at gs place) ≡ true
      → IsTried 64 a place t o → new ≡ place_after place o.next → IsUnderWay new o.text
  under_way-next next place new t gs o is same read up within none takes tried on =
      let all : length gs ≡ length old.buffer.input = ap length read ∙ same in
      let low : next ≤ place = omega (arith, up, within) in
      let at : AreDoneBefore a place old (run t next) =
      up_to place next t is (omega (arith, up, all))
      (λ k least less. ap (λ (l : List hb_glyph_info_t). is_taken (glyph_at l k)) (sym read) ∙ none k least less) in
      let here : is_taken (glyph_at t.buffer.input place) ≡ true =
      ap (λ (l : List hb_glyph_info_t). is_taken (glyph_at l place)) (sym read) ∙ takes in
      let behind : AreDoneBefore a (suc place) old (run o.text new) =
      done_more place (run t next) (run o.text new) at (done_of place next new t o low here tried on) in
      let far : suc place ≤ min new (length old.buffer.input) = omega (arith, on, within, all) in
      stays (min new (length old.buffer.input) - suc place) (suc place) (min new (length old.buffer.input)) (run o.text new)
      (omega (arith, far)) (λ k least less. nothing_before k new o.text (omega (arith, less))) behind

  -- there is no other glyph that it is for
  pub under_way-end : (next : ℕ) (t : Text) → IsUnderWay next t → length t.buffer.input ≡ length old.buffer.input
      → ((k : ℕ) → next ≤ k → k < length t.buffer.input → is_taken (glyph_at t.buffer.input k) ≡ false)
      → AreDoneBefore a (length old.buffer.input) old (run t next)
  under_way-end next t is same none =
      up_to (length old.buffer.input) next t is (omega arith) (λ k up less. none k up (omega (arith, less, same)))
