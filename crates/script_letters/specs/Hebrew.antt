-- Hebrew letters with a mark as one character, of those that canonical composition leaves out: in the block Alphabetic
-- Presentation Forms of Unicode.
use Rattle.std.specs.Prelude.{◌≡◌, ℕ, ◌+◌, ◌-◌, ◌<◌, ◌≤◌, ◌==◌, ◌&&◌, ◌||◌, Bool, true, false, List, [], ◌∷◌, slice_index_or}
use Rattle.std.specs.Prelude.{Option, Some, None, MatchOption, min}
use Rattle.rb_glyph.specs.declared.info.hb_glyph_info_t.{hb_glyph_info_t}
use Rattle.glyph_lists.specs.Clusters.{zero_glyph}
use Rattle.shaping_buffer.specs.State.{State, len}
use Rattle.shaping_buffer.specs.ClusterStep.{merge_clusters}
use Rattle.script_items.specs.Marks.{kept_class}
use Rattle.script_items.specs.Moves.{moved}

-- a letter and a mark, and the character of both
abbrev pub presentation_forms : List ((ℕ × ℕ) × ℕ)
presentation_forms =
    ((0x05D0, 0x05B7), 0xFB2E) ∷ ((0x05D0, 0x05B8), 0xFB2F) ∷ ((0x05D0, 0x05BC), 0xFB30) ∷ ((0x05D1, 0x05BC), 0xFB31) ∷
    ((0x05D1, 0x05BF), 0xFB4C) ∷ ((0x05D2, 0x05BC), 0xFB32) ∷ ((0x05D3, 0x05BC), 0xFB33) ∷ ((0x05D4, 0x05BC), 0xFB34) ∷
    ((0x05D5, 0x05B9), 0xFB4B) ∷ ((0x05D5, 0x05BC), 0xFB35) ∷ ((0x05D6, 0x05BC), 0xFB36) ∷ ((0x05D8, 0x05BC), 0xFB38) ∷
    ((0x05D9, 0x05B4), 0xFB1D) ∷ ((0x05D9, 0x05BC), 0xFB39) ∷ ((0x05DA, 0x05BC), 0xFB3A) ∷ ((0x05DB, 0x05BC), 0xFB3B) ∷
    ((0x05DB, 0x05BF), 0xFB4D) ∷ ((0x05DC, 0x05BC), 0xFB3C) ∷ ((0x05DE, 0x05BC), 0xFB3E) ∷ ((0x05E0, 0x05BC), 0xFB40) ∷
    ((0x05E1, 0x05BC), 0xFB41) ∷ ((0x05E3, 0x05BC), 0xFB43) ∷ ((0x05E4, 0x05BC), 0xFB44) ∷ ((0x05E4, 0x05BF), 0xFB4E) ∷
    ((0x05E6, 0x05BC), 0xFB46) ∷ ((0x05E7, 0x05BC), 0xFB47) ∷ ((0x05E8, 0x05BC), 0xFB48) ∷ ((0x05E9, 0x05BC), 0xFB49) ∷
    ((0x05E9, 0x05C1), 0xFB2A) ∷ ((0x05E9, 0x05C2), 0xFB2B) ∷ ((0x05EA, 0x05BC), 0xFB4A) ∷ ((0x05F2, 0x05B7), 0xFB1F) ∷
    ((0xFB2A, 0x05BC), 0xFB2C) ∷ ((0xFB2B, 0x05BC), 0xFB2D) ∷ ((0xFB49, 0x05C1), 0xFB2C) ∷ ((0xFB49, 0x05C2), 0xFB2D) ∷ []

-- ---- the order of marks (`reorder_marks_hebrew`), by the classes that HarfBuzz reorders them by: 20 patah, 21 qamats, 22 sheva,
-- 23 hiriq, 25 meteg, 220 other marks below

-- the last of three marks belongs before the second
abbrev pub is_misplaced : hb_glyph_info_t → hb_glyph_info_t → hb_glyph_info_t → Bool
is_misplaced vowel point below =
    (kept_class vowel == 20 || kept_class vowel == 21)
    && ((kept_class point == 22 || kept_class point == 23) && (kept_class below == 25 || kept_class below == 220))

-- the mark at a place does
abbrev pub is_misplaced_at : List hb_glyph_info_t → ℕ → Bool
is_misplaced_at l place =
    is_misplaced (slice_index_or l (place - 2) zero_glyph) (slice_index_or l (place - 1) zero_glyph) (slice_index_or l place zero_glyph)

-- no mark from one place up to another does
abbrev pub NoneMisplaced : List hb_glyph_info_t → ℕ → ℕ → Type 0
NoneMisplaced l from to = (k : ℕ) → from ≤ k → k < to → is_misplaced_at l k ≡ false

-- the first mark that does, behind the first two from `start` on
abbrev pub IsMisplaced : List hb_glyph_info_t → ℕ → ℕ → Option ℕ → Type 0
IsMisplaced l start end found =
    MatchOption found (NoneMisplaced l (start + 2) end)
    (λ place. (start + 2 ≤ place) × (place < end) × (is_misplaced_at l place ≡ true) × NoneMisplaced l (start + 2) place)

-- it changes places with the mark before it, in one cluster
unfoldable pub mark_moved : ℕ → State → State
mark_moved place s =
    let t = merge_clusters (place - 1) (place + 1) s in
    record t { input = moved (place - 1) place (place + 1) t.input }

abbrev pub reordered_by : Option ℕ → State → State
reordered_by None s = s
reordered_by (Some place) s = mark_moved place s

-- so does the first misplaced one of the marks from `start` to `end`, if there is one
abbrev pub IsReordered : ℕ → ℕ → State → State → Type 0
IsReordered start end old new =
    (found : Option ℕ) × IsMisplaced old.input start (min end (len old)) found × (new ≡ reordered_by found old)
