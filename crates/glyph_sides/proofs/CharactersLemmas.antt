-- One more character, at the end of the glyphs of a text.
use Rattle.std.proofs.Common.{◌≡◌, ℕ, suc, ◌+◌, ◌%◌, ◌<◌, ◌≤◌, List, [], ◌∷◌, ◌++◌, length, IsUtf8, refl, ap, sym, ◌∙◌}
use Rattle.std.proofs.Common.{arith, append_assoc, append-nil, length-append}
use Rattle.std.proofs.lemmas.List.{nil_from_length}
use Rattle.std.specs.Prelude.{encode_utf8}
use Rattle.std.specs.Str.{chars}
use Rattle.std.proofs.lemmas.Str.{chars_past_char, IsUtf8-past_char, chars-nil}
use Rattle.rb_glyph.specs.declared.info.hb_glyph_info_t.{hb_glyph_info_t}
use Rattle.glyph_sides.specs.TextGlyphs.{glyphs_at}

-- The glyphs so far, and those of the rest of the text, are all of them, and there is room.
pub record Filling (whole done : List hb_glyph_info_t) (offset : ℕ) (rest : List ℕ) (capacity : ℕ) : Type 0 where
  pub utf8 : IsUtf8 rest
  pub all : done ++ glyphs_at offset (chars rest) ≡ whole
  pub room : length done + length (chars rest) ≤ capacity

pub length_glyphs_at : (offset : ℕ) (cs : List ℕ) → length (glyphs_at offset cs) ≡ length cs
length_glyphs_at offset [] = refl
length_glyphs_at offset (c ∷ cs) = ap suc (length_glyphs_at (offset + length (encode_utf8 c)) cs)

pub length_pushed : (xs : List hb_glyph_info_t) (cs : List ℕ) → length (xs ++ glyphs_at 0 cs) ≡ length xs + length cs
length_pushed xs cs = omega (arith, length-append xs (glyphs_at 0 cs), length_glyphs_at 0 cs)

abbrev pub glyph_at : ℕ → ℕ → hb_glyph_info_t
glyph_at offset c = record { glyph_id = c; mask = 0; cluster = offset % 4294967296; var1 = 0; var2 = 0 }

module _ {whole done : List hb_glyph_info_t} {offset : ℕ} {rest : List ℕ} {capacity : ℕ}
    (f : Filling whole done offset rest capacity) (i c : ℕ) (more : List ℕ) (next : ℕ) (at : i ≡ offset)
    (front : rest ≡ encode_utf8 c ++ more) (is : next ≡ offset + length (encode_utf8 c)) where
  glyphs_front : chars rest ≡ c ∷ chars more
  glyphs_front = chars_past_char rest more c f.utf8 front

  pub has_room : length done < capacity
  has_room = let n = ap length glyphs_front in omega (arith, f.room)

  pub filled : Filling whole (done ++ glyph_at i c ∷ []) next more capacity
  filled = record {
    utf8 = IsUtf8-past_char rest more c f.utf8 front;
    all = append_assoc done (glyph_at i c ∷ []) (glyphs_at next (chars more))
        ∙ ap (λ k. done ++ (glyph_at k c ∷ glyphs_at next (chars more))) at
        ∙ ap (λ k. done ++ (glyph_at offset c ∷ glyphs_at k (chars more))) is
        ∙ ap (λ cs. done ++ glyphs_at offset cs) (sym glyphs_front) ∙ f.all;
    room = let n = ap length glyphs_front in omega (arith, f.room, length-append done (glyph_at i c ∷ []));
  }

pub filling_done : {whole done : List hb_glyph_info_t} {offset : ℕ} {rest : List ℕ} {capacity : ℕ}
    → Filling whole done offset rest capacity → length rest ≡ 0 → done ≡ whole
filling_done {done = done} {offset = offset} {rest = rest} f none =
    sym (append-nil done) ∙ ap (λ cs. done ++ glyphs_at offset cs)
    (sym (ap chars (nil_from_length rest none) ∙ chars-nil)) ∙ f.all
