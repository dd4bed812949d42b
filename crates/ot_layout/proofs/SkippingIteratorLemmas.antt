-- One step of an iterator over glyphs.
use Rattle.std.proofs.Common.{◌≡◌, ℕ, ◌+◌, ◌<◌, Bool, true, false, List, length, refl, suc, arith}
use Rattle.std.proofs.Math.Seq.{drop-length}
use Rattle.std.proofs.lemmas.List.{drop_more}
use Rattle.rb_glyph.specs.declared.info.hb_glyph_info_t.{hb_glyph_info_t}
use Rattle.ot_lookups.specs.LookupProps.{glyph_at, zero_glyph}
use Rattle.ot_layout.specs.SkippingIterator.{first_kept, kept_before}

-- a glyph that is passed over
pub first_kept-later : (pass : hb_glyph_info_t → Bool) (gs : List hb_glyph_info_t) (i : ℕ) → i < length gs
    → pass (glyph_at gs i) ≡ true → first_kept pass gs i ≡ first_kept pass gs (i + 1)
first_kept-later pass gs i within passes =
    rw (drop_more gs i zero_glyph within) (rw passes (omega arith))

-- a glyph that is not
pub first_kept-here : (pass : hb_glyph_info_t → Bool) (gs : List hb_glyph_info_t) (i : ℕ) → i < length gs
    → pass (glyph_at gs i) ≡ false → first_kept pass gs i ≡ i
first_kept-here pass gs i within passes =
    rw (drop_more gs i zero_glyph within) (rw passes (omega arith))

-- the end of the list
pub first_kept-nowhere : (pass : hb_glyph_info_t → Bool) (gs : List hb_glyph_info_t) (i : ℕ) → i ≡ length gs
    → first_kept pass gs i ≡ i
first_kept-nowhere pass gs i end = rw end (rw (drop-length gs) (omega arith))

-- back over a glyph that is passed over
pub kept_before-earlier : (pass : hb_glyph_info_t → Bool) (gs : List hb_glyph_info_t) (i j : ℕ) → i ≡ j + 1
    → pass (glyph_at gs j) ≡ true → kept_before pass gs i ≡ kept_before pass gs j
kept_before-earlier pass gs i j next passes =
    let e : i ≡ suc j = omega (arith, next) in
    rw e (rw passes refl)

-- back to a glyph that is not
pub kept_before-behind : (pass : hb_glyph_info_t → Bool) (gs : List hb_glyph_info_t) (i j : ℕ) → i ≡ j + 1
    → pass (glyph_at gs j) ≡ false → kept_before pass gs i ≡ i
kept_before-behind pass gs i j next passes =
    let e : i ≡ suc j = omega (arith, next) in
    rw e (rw passes refl)

pub ruleset walk_steps =
    (first_kept-later, first_kept-here, first_kept-nowhere, kept_before-earlier, kept_before-behind)
