-- The serialized text: of each glyph the pieces that a set of flags asks for, and the glyphs joined by bars.
use Rattle.std.specs.Prelude.{ℕ, zero, suc, ◌==◌, Bool, ◌&&◌, ◌||◌, not, List, [], ◌∷◌, ◌++◌, Option, None}
use Rattle.std.specs.Prelude.{unwrap_or, codes, nat_le, ℤ, pos, ◌+ℤ◌, if◌then◌else◌, bit_and}
use Rattle.std.specs.Fmt.{decimal, signed_decimal}
use Rattle.std.specs.Ordering.{int_eq}
use Rattle.std.specs.List.{fold, join_with_byte}
use Rattle.rb_glyph.specs.declared.flag_sets.SerializeFlags.{SerializeFlags}
use Rattle.rb_glyph.specs.declared.flag_sets.TheConstants.SerializeFlags.{NO_CLUSTERS, NO_POSITIONS, NO_GLYPH_NAMES}
use Rattle.rb_glyph.specs.declared.flag_sets.TheConstants.SerializeFlags.{GLYPH_EXTENTS, GLYPH_FLAGS, NO_ADVANCES}
use Rattle.rb_glyph.specs.declared.glyph_flag.TheConstants.{DEFINED}
use Rattle.rb_glyph.specs.declared.info.hb_glyph_info_t.{hb_glyph_info_t}
use Rattle.rb_glyph.specs.declared.names.GlyphExtents.{GlyphExtents}
use Rattle.rb_glyph.specs.declared.position.GlyphPosition.{GlyphPosition}

-- what a font says of its glyphs, by their numbers
pub record Font : Type 0 where
  pub name : ℕ → Option (List ℕ)
  pub extents : ℕ → Option GlyphExtents

-- a font that knows nothing
abbrev pub nothing_known : Font
nothing_known = record { name = λ _. None; extents = λ _. None }

-- what a font says of the glyph of this number: nothing of a number past 16 bits, which no glyph has
abbrev pub said_of : {A : Type 0} → (ℕ → Option A) → ℕ → Option A
said_of says id = if nat_le id 65535 then says id else None

-- whether a set of flags has this flag
abbrev pub has : SerializeFlags → SerializeFlags → Bool
has flags flag = bit_and flags.0 flag.0 == flag.0

-- ---- the pieces

-- the name, or "gid" and the number where the font has none; under `NO_GLYPH_NAMES` the number alone
abbrev pub name_text : SerializeFlags → Option (List ℕ) → ℕ → List ℕ
name_text flags name id = if has flags NO_GLYPH_NAMES then decimal id else unwrap_or name (codes "gid" ++ decimal id)

-- "=" and the cluster, unless `NO_CLUSTERS`
abbrev pub cluster_text : SerializeFlags → ℕ → List ℕ
cluster_text flags cluster = if has flags NO_CLUSTERS then [] else 61 ∷ decimal cluster

-- "@x,y", unless both are 0
abbrev pub offset_text : ℤ → ℤ → List ℕ
offset_text x y = if int_eq x (pos 0) && int_eq y (pos 0) then [] else 64 ∷ signed_decimal x ++ 44 ∷ signed_decimal y

-- "+x", always, and then ",y" unless y is 0
abbrev pub advance_text : ℤ → ℤ → List ℕ
advance_text x y = 43 ∷ signed_decimal x ++ (if int_eq y (pos 0) then [] else 44 ∷ signed_decimal y)

-- the offsets and the advances; under `NO_ADVANCES` the offsets alone, from the sums x and y of all earlier advances;
-- under `NO_POSITIONS` nothing
abbrev pub position_text : SerializeFlags → ℤ → ℤ → GlyphPosition → List ℕ
position_text flags x y p =
    if has flags NO_POSITIONS then []
    else if has flags NO_ADVANCES then offset_text (x +ℤ p.x_offset) (y +ℤ p.y_offset)
    else offset_text p.x_offset p.y_offset ++ advance_text p.x_advance p.y_advance

-- "#" and the glyph flags as a digit, from 1 to 7, under `GLYPH_FLAGS`, unless there are none
abbrev pub flags_text : SerializeFlags → ℕ → List ℕ
flags_text flags mask =
    if not (has flags GLYPH_FLAGS) || bit_and mask DEFINED == 0 then [] else 35 ∷ decimal (bit_and mask DEFINED)

-- the pen moves by the advance of a glyph under `NO_ADVANCES` alone
abbrev pub moved : SerializeFlags → ℤ → ℤ → ℤ
moved flags place advance = if has flags NO_ADVANCES then place +ℤ advance else place

-- the extents of a glyph of which the font knows none
abbrev pub zero_extents : GlyphExtents
zero_extents = record { x_bearing = pos 0; y_bearing = pos 0; width = pos 0; height = pos 0 }

-- "<x_bearing,y_bearing,width,height>"
abbrev pub box_text : GlyphExtents → List ℕ
box_text e = 60 ∷ signed_decimal e.x_bearing ++ 44 ∷ signed_decimal e.y_bearing ++ 44 ∷ signed_decimal e.width
    ++ 44 ∷ signed_decimal e.height ++ 62 ∷ []

-- the extents, or zeros where the font has none, under `GLYPH_EXTENTS`
abbrev pub extents_text : SerializeFlags → Option GlyphExtents → List ℕ
extents_text flags extents = if has flags GLYPH_EXTENTS then box_text (unwrap_or extents zero_extents) else []

-- ---- the whole

-- the sums of the advances, as whole numbers
abbrev pub x_advances : List GlyphPosition → ℤ
x_advances ps = fold (λ sum p. sum +ℤ p.x_advance) (pos 0) ps

abbrev pub y_advances : List GlyphPosition → ℤ
y_advances ps = fold (λ sum p. sum +ℤ p.y_advance) (pos 0) ps

-- a glyph's text after glyphs with these positions
abbrev pub glyph_text : Font → SerializeFlags → List GlyphPosition → hb_glyph_info_t × GlyphPosition → List ℕ
glyph_text font flags earlier g =
    name_text flags (said_of font.name g.0.glyph_id) g.0.glyph_id
    ++ cluster_text flags g.0.cluster
    ++ position_text flags (x_advances earlier) (y_advances earlier) g.1
    ++ flags_text flags g.0.mask
    ++ extents_text flags (said_of font.extents g.0.glyph_id)

-- the text of each glyph, after glyphs with these positions
abbrev pub glyph_texts : Font → SerializeFlags → List GlyphPosition → List (hb_glyph_info_t × GlyphPosition)
    → List (List ℕ)
glyph_texts font flags earlier [] = []
glyph_texts font flags earlier (g ∷ gs) =
    glyph_text font flags earlier g ∷ glyph_texts font flags (earlier ++ g.1 ∷ []) gs

-- the texts of the glyphs, joined by "|"
abbrev pub glyphs_text : Font → SerializeFlags → List (hb_glyph_info_t × GlyphPosition) → List ℕ
glyphs_text font flags gs = join_with_byte 124 (glyph_texts font flags [] gs)

-- what stands before the piece at a place: a bar, but before the first nothing
abbrev pub bar_before : ℕ → List ℕ
bar_before zero = []
bar_before (suc i) = 124 ∷ []

-- ---- what is asked of the font

-- whether the font is asked: for names, or for extents
abbrev pub asks_font : SerializeFlags → Bool
asks_font flags = not (has flags NO_GLYPH_NAMES) || has flags GLYPH_EXTENTS
