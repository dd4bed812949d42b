-- Marks of Arabic: those that belong next to their letter (Unicode Technical Report 53; HarfBuzz, `reorder_marks_arabic`), and those
-- that are stretched over a word (`record_stch`, `apply_stch`).
use Rattle.std.specs.Prelude.{ℕ, ◌+◌, ◌-◌, ◌%◌, ◌==◌, ◌&&◌, ◌||◌, Bool, not, List, take, drop, map, nat_le, nat_lt, bit_and, bit_or}
use Rattle.std.specs.Prelude.{if◌then◌else◌, ℤ, pos, fold}
use Rattle.std.specs.Int.{int_wrapping_add, int_wrapping_sub, w64}
use Rattle.std.specs.List.{list_any, prefix_len}
use Rattle.rb_glyph.specs.Fields.{field}
use Rattle.rb_glyph.specs.declared.flag_sets.TheConstants.GlyphPropsFlags.{MULTIPLIED}
use Rattle.rb_glyph.specs.declared.info.hb_glyph_info_t.{hb_glyph_info_t}
use Rattle.rb_glyph.specs.declared.position.GlyphPosition.{GlyphPosition}
use Rattle.rb_glyph.specs.declared.scratch.TheConstants.{HB_BUFFER_SCRATCH_FLAG_SHAPER0}
use Rattle.glyph_lists.specs.Parts.{map_range}
use Rattle.shaping_buffer.specs.State.{HasPositions, State, len}
use Rattle.shaping_buffer.specs.ClusterStep.{merge_clusters}
use Rattle.shaping_buffer.specs.KeepsClusters.{KeepsClusters}
use Rattle.script_items.specs.Item.{shaper_byte, with_shaper_byte}
use Rattle.script_items.specs.Marks.{category, kept_class, with_class}
use Rattle.script_items.specs.Moves.{moved}
use Rattle.script_items.specs.Properties.{is_default_ignorable}

-- ---- modifier combining marks

abbrev pub within : ℕ → ℕ → ℕ → Bool
within first last c = nat_le first c && nat_le c last

abbrev pub is_modifier : ℕ → Bool
is_modifier c =
    c == 0x654 || (c == 0x655 || (c == 0x658 || (c == 0x6DC || (c == 0x6E3 || (c == 0x6E7 || (c == 0x6E8
    || (c == 0x8CA || (c == 0x8CB || (within 0x8CD 0x8CF c || (c == 0x8D3 || c == 0x8F3))))))))))

-- a mark comes before those of a class
unfoldable pub is_below : ℕ → hb_glyph_info_t → Bool
is_below class g = nat_lt (kept_class g) class

-- it is a modifier of the class
unfoldable pub is_modifier_of : ℕ → hb_glyph_info_t → Bool
is_modifier_of class g = kept_class g == class && is_modifier g.glyph_id

-- where the items end that pass a test, of those from `start` up to `end`
unfoldable pub passing_end : (hb_glyph_info_t → Bool) → List hb_glyph_info_t → ℕ → ℕ → ℕ
passing_end test l start end = start + prefix_len test (drop start (take end l))

-- where the first marks of a class begin, and where the modifiers among them end
abbrev pub modifiers_start : ℕ → List hb_glyph_info_t → ℕ → ℕ → ℕ
modifiers_start class l start end = passing_end (is_below class) l start end

abbrev pub modifiers_end : ℕ → List hb_glyph_info_t → ℕ → ℕ → ℕ
modifiers_end class l start end = passing_end (is_modifier_of class) l (modifiers_start class l start end) end

-- the marks from `first` up to `last` go before those from `start` on, in one cluster, and get another class
unfoldable pub put_first : ℕ → ℕ → ℕ → ℕ → State → State
put_first start first last class s =
    let t = merge_clusters start last s in
    record t { input = map_range (with_class class) (moved start first last t.input) start (start + (last - first)) }

-- if there are any
unfoldable pub put_if_any : ℕ → ℕ → ℕ → ℕ → State → State
put_if_any start first last class s = if nat_lt first last then put_first start first last class s else s

-- so are those modifiers, and here begins what stands behind them
abbrev pub modifiers_moved : ℕ → ℕ → ℕ → ℕ → State → State
modifiers_moved class new_class start end s =
    put_if_any start (modifiers_start class s.input start end) (modifiers_end class s.input start end) new_class s

abbrev pub behind_modifiers : ℕ → List hb_glyph_info_t → ℕ → ℕ → ℕ
behind_modifiers class l start end = start + (modifiers_end class l start end - modifiers_start class l start end)

-- those below (220), and behind them those above (230); their classes 25 and 26 come before all others of Arabic
abbrev pub both_moved : ℕ → ℕ → State → State
both_moved start end s =
    modifiers_moved 230 26 (behind_modifiers 220 s.input start end) end (modifiers_moved 220 25 start end s)

-- `reorder_marks_arabic`, for marks of the text
unfoldable pub marks_reordered : ℕ → ℕ → State → State
marks_reordered start end s = if nat_lt end start || nat_lt (len s) end then s else both_moved start end s

-- ---- marks that are stretched

-- which of the glyphs that a lookup made of one it is
abbrev pub component : hb_glyph_info_t → ℕ
component g = if not (bit_and (field g.var1 16 8) 0x10 == 0) then 0 else bit_and (field g.var1 16 8) 0xF

-- a lookup made it of a glyph, with others
abbrev pub is_multiplied : hb_glyph_info_t → Bool
is_multiplied g = not (bit_and (field g.var1 0 16) MULTIPLIED.0 == 0)

-- the number of `STCH_REPEATING`, as each second piece is, and of `STCH_FIXED`
abbrev pub piece_number : ℕ → ℕ
piece_number n = if n % 2 == 1 then 9 else 8

-- such a piece keeps its number
unfoldable pub recorded : hb_glyph_info_t → hb_glyph_info_t
recorded g = if is_multiplied g then with_shaper_byte (piece_number (component g)) g else g

abbrev pub all_recorded : State → State
all_recorded s = record s { input = map recorded s.input }

-- where there are some the scratch flag of the shaper says so
unfoldable pub pieces_noted : Bool → State → State
pieces_noted has_pieces s =
    if has_pieces then record s { scratch_flags = bit_or s.scratch_flags HB_BUFFER_SCRATCH_FLAG_SHAPER0 } else s

-- `record_stch`
abbrev pub pieces_recorded : State → State
pieces_recorded s = pieces_noted (list_any is_multiplied s.input) (all_recorded s)

abbrev pub is_piece : hb_glyph_info_t → Bool
is_piece g = shaper_byte g == 8 || shaper_byte g == 9

-- words are of these general categories (HarfBuzz, `HB_ARABIC_GENERAL_CATEGORY_IS_WORD`)
abbrev pub is_word_category : ℕ → Bool
is_word_category c =
    c == 2 || (c == 3 || (c == 6 || (c == 7 || (c == 10 || (c == 11 || (c == 12 || (c == 13 || (c == 14 || (c == 15
    || (c == 23 || (c == 24 || (c == 25 || c == 26))))))))))))

-- and of characters that are invisible by default
abbrev pub is_of_word : hb_glyph_info_t → Bool
is_of_word g = not (is_piece g) && (is_default_ignorable g || is_word_category (category g))

-- where a piece is drawn, and where the next one: in lines that run to the left the offset is its right side
abbrev pub piece_places : Bool → ℤ → ℤ → ℤ × ℤ
piece_places is_right_to_left width offset =
    if is_right_to_left then (int_wrapping_sub w64 offset width, int_wrapping_sub w64 offset width)
    else (offset, int_wrapping_add w64 offset width)

-- how far the line goes on over glyphs
abbrev pub width_of : List GlyphPosition → ℤ
width_of ps = fold (λ sum p. int_wrapping_add w64 sum p.x_advance) (pos 0) ps

-- glyphs keep their clusters while marks are stretched, and still have positions
abbrev pub StaysPlaced : State → State → Type 0
StaysPlaced old new = record {
  placed : HasPositions new;
  keeps : KeepsClusters old new;
}
