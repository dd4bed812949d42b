-- Glyphs as JSON, in the format of HarfBuzz's `hb_buffer_serialize_glyphs`: an object for each glyph, with the members that a set of
-- flags asks for.
use Rattle.std.specs.Prelude.{ℕ, zero, suc, ◌==◌, ◌||◌, not, List, [], ◌∷◌, ◌++◌, flat_map, Option, option_map}
use Rattle.std.specs.Prelude.{unwrap_or, codes, ℤ, pos, ◌+ℤ◌, if◌then◌else◌, bit_and}
use Rattle.std.specs.Fmt.{decimal, signed_decimal}
use Rattle.rb_glyph.specs.declared.flag_sets.SerializeFlags.{SerializeFlags}
use Rattle.rb_glyph.specs.declared.flag_sets.TheConstants.SerializeFlags.{NO_CLUSTERS, NO_POSITIONS, NO_GLYPH_NAMES}
use Rattle.rb_glyph.specs.declared.flag_sets.TheConstants.SerializeFlags.{GLYPH_EXTENTS, GLYPH_FLAGS, NO_ADVANCES}
use Rattle.rb_glyph.specs.declared.glyph_flag.TheConstants.{DEFINED}
use Rattle.rb_glyph.specs.declared.info.hb_glyph_info_t.{hb_glyph_info_t}
use Rattle.rb_glyph.specs.declared.names.GlyphExtents.{GlyphExtents}
use Rattle.rb_glyph.specs.declared.position.GlyphPosition.{GlyphPosition}
use Rattle.glyph_text.specs.Text.{Font, said_of, has, moved, zero_extents}

-- ---- a string of JSON

-- a quotation mark and a backslash have a backslash before them
abbrev pub escaped_byte : ℕ → List ℕ
escaped_byte b = if (b == 34) || (b == 92) then 92 ∷ b ∷ [] else b ∷ []

abbrev pub escaped : List ℕ → List ℕ
escaped name = flat_map escaped_byte name

-- the name in quotes, or "gid" and the number where the font has none
abbrev pub quoted_name : Option (List ℕ) → ℕ → List ℕ
quoted_name name id = 34 ∷ unwrap_or (option_map escaped name) (codes "gid" ++ decimal id) ++ 34 ∷ []

-- ---- the members of an object

-- `{"g":` and the name, or the number under `NO_GLYPH_NAMES`
abbrev pub name_member : SerializeFlags → Option (List ℕ) → ℕ → List ℕ
name_member flags name id = codes "{\"g\":" ++ (if has flags NO_GLYPH_NAMES then decimal id else quoted_name name id)

-- the cluster, unless `NO_CLUSTERS`
abbrev pub cluster_member : SerializeFlags → ℕ → List ℕ
cluster_member flags cluster = if has flags NO_CLUSTERS then [] else codes ",\"cl\":" ++ decimal cluster

-- two members, with what stands before their numbers
abbrev pub two : List ℕ → ℤ → List ℕ → ℤ → List ℕ
two name x other y = name ++ signed_decimal x ++ other ++ signed_decimal y

-- where a glyph stands: its offsets from the pen
abbrev pub place : ℤ → ℤ → GlyphPosition → List ℕ
place x y p = two (codes ",\"dx\":") (x +ℤ p.x_offset) (codes ",\"dy\":") (y +ℤ p.y_offset)

abbrev pub place_members : SerializeFlags → ℤ → ℤ → GlyphPosition → List ℕ
place_members flags x y p = if has flags NO_POSITIONS then [] else place x y p

-- the advances, unless `NO_ADVANCES`
abbrev pub advance : SerializeFlags → GlyphPosition → List ℕ
advance flags p =
    if has flags NO_ADVANCES then []
    else two (codes ",\"ax\":") p.x_advance (codes ",\"ay\":") p.y_advance

abbrev pub advance_members : SerializeFlags → GlyphPosition → List ℕ
advance_members flags p = if has flags NO_POSITIONS then [] else advance flags p

-- the glyph flags, under `GLYPH_FLAGS`, unless there are none
abbrev pub flags_member : SerializeFlags → ℕ → List ℕ
flags_member flags mask =
    if not (has flags GLYPH_FLAGS) || bit_and mask DEFINED == 0 then [] else codes ",\"fl\":" ++ decimal (bit_and mask DEFINED)

abbrev pub box_members : GlyphExtents → List ℕ
box_members e =
    two (codes ",\"xb\":") e.x_bearing (codes ",\"yb\":") e.y_bearing
    ++ two (codes ",\"w\":") e.width (codes ",\"h\":") e.height

-- the extents, or zeros where the font has none, under `GLYPH_EXTENTS`
abbrev pub extents_members : SerializeFlags → Option GlyphExtents → List ℕ
extents_members flags extents = if has flags GLYPH_EXTENTS then box_members (unwrap_or extents zero_extents) else []

-- ---- the whole

-- the object of a glyph, where the pen stands at this place
abbrev pub object : Font → SerializeFlags → ℤ → ℤ → hb_glyph_info_t × GlyphPosition → List ℕ
object font flags x y g =
    name_member flags (said_of font.name g.0.glyph_id) g.0.glyph_id ++ cluster_member flags g.0.cluster
    ++ (place_members flags x y g.1 ++ advance_members flags g.1)
    ++ (flags_member flags g.0.mask ++ extents_members flags (said_of font.extents g.0.glyph_id) ++ 125 ∷ [])

-- what stands before the object at a place: a comma, but before the first nothing
abbrev pub comma_before : ℕ → List ℕ
comma_before zero = []
comma_before (suc i) = 44 ∷ []

-- the objects of glyphs, the first of which stands at this place, with the pen there
abbrev pub objects_from : Font → SerializeFlags → ℕ → ℤ → ℤ → List (hb_glyph_info_t × GlyphPosition) → List ℕ
objects_from font flags i x y [] = []
objects_from font flags i x y (g ∷ gs) =
    (comma_before i ++ object font flags x y g)
    ++ objects_from font flags (suc i) (moved flags x g.1.x_advance) (moved flags y g.1.y_advance) gs

-- the objects of the glyphs, joined by commas
abbrev pub glyphs_json : Font → SerializeFlags → List (hb_glyph_info_t × GlyphPosition) → List ℕ
glyphs_json font flags gs = objects_from font flags 0 (pos 0) (pos 0) gs
