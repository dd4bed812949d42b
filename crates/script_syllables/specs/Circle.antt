-- The dotted circle of syllables that have no base (HarfBuzz, `hb_syllabic_insert_dotted_circles`).
use Rattle.std.specs.Prelude.{◌≡◌, ◌<◌, ℕ, ◌==◌, ◌&&◌, ◌++◌, Bool, false, not, List, [], ◌∷◌, length, Option, Some, None}
use Rattle.std.specs.Prelude.{is_some, option_to_list, take, drop, if◌then◌else◌}
use Rattle.std.specs.List.{prefix_len}
use Rattle.rb_glyph.specs.Fields.{with_field}
use Rattle.rb_glyph.specs.declared.info.hb_glyph_info_t.{hb_glyph_info_t}
use Rattle.shaping_buffer.specs.State.{State}
use Rattle.script_syllables.specs.Item.{category_byte, with_category_byte, with_position, syllable, syllable_kind}
use Rattle.script_syllables.specs.declared.dotted_circle.Circle.{Circle}

-- a circle in the cluster, with the mask and in the syllable of an item
abbrev pub circle_at : Circle → hb_glyph_info_t → hb_glyph_info_t
circle_at c g =
    with_position c.kind.position (with_category_byte c.kind.category (record {
      glyph_id = c.glyph;
      mask = g.mask;
      cluster = g.cluster;
      var1 = with_field 0 24 8 (syllable g);
      var2 = 0;
    }))

-- the first item of a broken syllable, unless the last of these has its number
abbrev pub begins_broken : Circle → ℕ → hb_glyph_info_t → Bool
begins_broken c last g = not (syllable g == last) && (syllable_kind g == c.kind.broken)

-- an item of the category of rephs, in the syllable with this number
abbrev pub is_reph : Option ℕ → ℕ → hb_glyph_info_t → Bool
is_reph None number g = false
is_reph (Some category) number g = (syllable g == number) && (category_byte g == category)

-- The items with a circle before the first one of each broken syllable, or behind its rephs. `last` is the number of the last of
-- these syllables, and `waiting` its circle while only rephs of it were read.
abbrev pub circled : Circle → ℕ → Option hb_glyph_info_t → List hb_glyph_info_t → List hb_glyph_info_t
circled c last waiting [] = option_to_list waiting
circled c last waiting (g ∷ gs) =
    if is_some waiting && is_reph c.kind.repha last g then (g ∷ circled c last waiting gs)
    else (option_to_list waiting ++ (if begins_broken c last g then
    (if is_reph c.kind.repha (syllable g) g then (g ∷ circled c (syllable g) (Some (circle_at c g)) gs)
    else (circle_at c g ∷ g ∷ circled c (syllable g) None gs))
    else (g ∷ circled c last None gs)))

abbrev pub with_circles : Circle → ℕ → List hb_glyph_info_t → List hb_glyph_info_t
with_circles c last l = circled c last None l

-- what is put out of a list: so many items, and behind them the circle of the first
abbrev pub circle_behind : Circle → ℕ → List hb_glyph_info_t → List hb_glyph_info_t
circle_behind c n [] = []
circle_behind c n (g ∷ gs) = take n (g ∷ gs) ++ circle_at c g ∷ []

-- a list that begins with a broken syllable: its rephs, the circle of the first item, and what stands behind
abbrev pub first_circled : Circle → List hb_glyph_info_t → List hb_glyph_info_t
first_circled c [] = []
first_circled c (g ∷ gs) =
    let n = prefix_len (is_reph c.kind.repha (syllable g)) (g ∷ gs) in
    take n (g ∷ gs) ++ circle_at c g ∷ with_circles c (syllable g) (drop n (g ∷ gs))

-- a buffer has these glyphs on its two sides
pub record HasSides (gs rest : List hb_glyph_info_t) (s : State) : Type 0 where
  pub out : s.out ≡ gs
  pub input : s.input ≡ rest

-- Items were read, one at least. With what is left, where `last` is the number of the last broken syllable, they are this text.
pub record IsRead (c : Circle) (text : List hb_glyph_info_t) (old : State) (last : ℕ) (new : State) : Type 0 where
  pub is : new.out ++ with_circles c last new.input ≡ old.out ++ text
  pub fewer : length new.input < length old.input
