-- How what a buffer holds reads.
use Rattle.std.specs.Prelude.{ℕ, zero, suc, Bool, List, [], ◌∷◌, ◌++◌, map, codes, bit_and}
use Rattle.std.specs.Int.{from_bool}
use Rattle.std.specs.Fmt.{decimal}
use Rattle.std.specs.List.{join_with_byte}
use Rattle.rb_glyph.specs.declared.info.hb_glyph_info_t.{hb_glyph_info_t}
use Rattle.shaping_buffer.specs.State.{State}

-- the id of a glyph, its cluster and its glyph flags, which are the low three bits of its mask
abbrev pub item_text : hb_glyph_info_t → List ℕ
item_text g = decimal g.glyph_id ++ 58 ∷ decimal g.cluster ++ 58 ∷ decimal (bit_and g.mask 7)

-- the glyphs, parted by spaces
abbrev pub items_text : List hb_glyph_info_t → List ℕ
items_text items = join_with_byte 32 (map item_text items)

-- what stands before the glyph at a place: a space, but before the first nothing
abbrev pub space_before : ℕ → List ℕ
space_before zero = []
space_before (suc i) = 32 ∷ []

-- 1 for yes, 0 for no
abbrev pub digit_of : Bool → List ℕ
digit_of b = decimal (from_bool b)

-- whether an output is open, the cursor, and whether no call was refused
abbrev pub head_text : State → List ℕ
head_text s =
    codes "open=" ++ digit_of s.have_output ++ codes " idx=" ++ decimal s.idx ++ codes " ok=" ++ digit_of s.successful

-- and then what was put out, and what is left to read
abbrev pub state_text : State → List ℕ
state_text s = head_text s ++ codes " out=[" ++ items_text s.out ++ codes "] in=[" ++ items_text s.input ++ codes "]"
