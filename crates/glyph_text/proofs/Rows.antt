-- Worked examples of the text of glyphs.
use Rattle.std.proofs.Common.{◌≡◌, ℕ, ◌+◌, [], ◌∷◌, refl, pos}
use Rattle.std.specs.Prelude.{Some, None, codes, negsuc, ℤ, ◌==◌, if◌then◌else◌}
use Rattle.std.specs.Fmt.{digits}
use Rattle.rb_glyph.specs.declared.flag_sets.TheConstants.SerializeFlags.{NO_GLYPH_NAMES, NO_ADVANCES, GLYPH_FLAGS}
use Rattle.rb_glyph.specs.declared.flag_sets.TheConstants.SerializeFlags.{GLYPH_EXTENTS}
use Rattle.rb_glyph.specs.declared.position.GlyphPosition.{GlyphPosition}
use Rattle.rb_glyph.specs.declared.info.hb_glyph_info_t.{hb_glyph_info_t}
use Rattle.glyph_text.specs.Text.{Font, nothing_known, glyphs_text}
use Rattle.glyph_text.proofs.TextLemmas.{no_glyph, no_position}

-- a font that knows the name and the extents of glyph 5
abbrev five_known : Font
five_known = record {
  name = λ id. if id == 5 then Some (codes "five") else None;
  extents = λ id. if id == 5
      then Some (record { x_bearing = pos 1; y_bearing = negsuc 1; width = pos 3; height = negsuc 3 }) else None;
}

names_flags_and_extents :
    glyphs_text five_known (record { 0 = GLYPH_FLAGS.0 + GLYPH_EXTENTS.0 })
    ((
      record no_glyph { glyph_id = 5; mask = 3 },
      record no_position { x_advance = pos 10; y_advance = negsuc 0; x_offset = pos 2 },
    )
    ∷ (record no_glyph { glyph_id = 6 }, no_position) ∷ [])
    ≡ codes "five=0@2,0+10,-1#3<1,-2,3,-4>|gid6=0+0<0,0,0,0>"
unfolding digits
names_flags_and_extents = refl

-- a glyph with the largest advance
abbrev wide : ℕ → ℕ → ℤ → hb_glyph_info_t × GlyphPosition
wide id cluster x = (
  record no_glyph { glyph_id = id; cluster = cluster },
  record no_position { x_advance = pos 2147483647; x_offset = x },
)

advances_are_summed_as_whole_numbers :
    glyphs_text nothing_known (record { 0 = NO_GLYPH_NAMES.0 + NO_ADVANCES.0 })
    (wide 1 0 (pos 0) ∷ wide 2 1 (pos 0) ∷ wide 3 2 (pos 1) ∷ [])
    ≡ codes "1=0|2=1@2147483647,0|3=2@4294967295,0"
unfolding digits
advances_are_summed_as_whole_numbers = refl
