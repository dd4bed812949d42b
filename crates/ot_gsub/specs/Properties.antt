-- The properties of glyphs before the first lookup, and of those that lookups put in the place of others.
use Rattle.std.specs.Prelude.{ℕ, ◌==◌, ◌&&◌, Bool, List, not, nat_lt, bit_and, bit_or, if◌then◌else◌}
use Rattle.font_tables.specs.Gdef.{has_glyph_classes, glyph_props}
use Rattle.rb_glyph.specs.Fields.{field}
use Rattle.rb_glyph.specs.declared.info.hb_glyph_info_t.{hb_glyph_info_t}
use Rattle.ot_lookups.specs.LookupProps.{share}
use Rattle.ot_gsub.specs.declared.properties.Way.{Way}
use Rattle.ot_gsub.specs.declared.properties.Way.TheVariants.{Replaced, Ligated, Multiplied}

-- what became of a glyph: 16 for substituted, 32 for ligated, 64 for multiplied; a ligature is not multiplied any more
abbrev pub marked_props : ℕ → Way → ℕ
marked_props old Replaced = bit_or old 16
marked_props old Ligated = bit_and (bit_or (bit_or old 16) 32) 65471
marked_props old Multiplied = bit_or (bit_or old 16) 64

-- what became of it, and its class in the font; where the font has no classes, the guessed one, or where nothing is
-- guessed, that of the glyph before it
abbrev pub substituted_props : List ℕ → ℕ → ℕ → Way → ℕ → ℕ
substituted_props gdef old glyph way guess =
    if has_glyph_classes gdef then bit_or (bit_and (marked_props old way) 112) (glyph_props gdef glyph)
    else if guess == 0 then marked_props old way
    else bit_or (bit_and (marked_props old way) 112) guess

-- whether these are the Unicode properties of a mark without width (category 12) that is visible by default (bit 5 is off)
abbrev pub is_shown_mark : ℕ → Bool
is_shown_mark unicode = (bit_and unicode 31 == 12) && not (share unicode 32)

-- a glyph before the first lookup: its class in the font, or where the font has no classes, that of its character, a mark (8)
-- or a base (2)
abbrev pub first_props : List ℕ → hb_glyph_info_t → ℕ
first_props gdef g =
    if has_glyph_classes gdef then (if nat_lt 65535 g.glyph_id then 0 else glyph_props gdef g.glyph_id)
    else if is_shown_mark (field g.var2 0 16) then 8 else 2

-- it has these properties alone: it is part of no ligature and of no syllable
abbrev pub started : List ℕ → hb_glyph_info_t → hb_glyph_info_t
started gdef g = record g { var1 = first_props gdef g }
