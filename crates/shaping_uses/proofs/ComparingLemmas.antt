-- The numbers of all glyphs fit their fields.
use Rattle.std.proofs.Common.{◌≡◌, ℕ, ◌+◌, ◌<◌, List, [], ◌∷◌, ◌++◌, length, take, get_or, sym, subst, arith}
use Rattle.std.specs.List.{All, zip}
use Rattle.std.proofs.lemmas.List.{take_more}
use Rattle.std.proofs.lemmas.List.Elements.{All-same, All-push}
use Rattle.std.proofs.lemmas.Slice.Zip.{get_or-zip, length-zip}
use Rattle.rb_glyph.specs.declared.info.hb_glyph_info_t.{hb_glyph_info_t}
use Rattle.rb_glyph.specs.declared.position.GlyphPosition.{GlyphPosition}
use Rattle.glyph_text.specs.TextReading.{FitsItsFields}

pub fit_more : (glyphs : List hb_glyph_info_t) (positions : List GlyphPosition) (i : ℕ) (g : hb_glyph_info_t)
    (p : GlyphPosition) → i < length glyphs → length positions ≡ length glyphs
    → All FitsItsFields (take i (zip glyphs positions)) → FitsItsFields (get_or glyphs i g, get_or positions i p)
    → All FitsItsFields (take (i + 1) (zip glyphs positions))
fit_more glyphs positions i g p h same so_far fits =
    let zs = zip glyphs positions in
    let within : i < length zs = omega (arith, length-zip glyphs positions, h, same) in
    let placed : i < length positions = omega (arith, h, same) in
    All-same FitsItsFields (take (i + 1) zs) (take i zs ++ get_or zs i (g, p) ∷ []) (take_more zs i (g, p) within)
    (All-push FitsItsFields (take i zs) (get_or zs i (g, p)) so_far
    (subst FitsItsFields (sym (get_or-zip glyphs positions i (g, p) h placed)) fits))
