-- References that are handed out: what stands on both sides once they are given back.
use Rattle.std.specs.Prelude.{ℕ, ◌+◌, ◌-◌, List, length, slice_set, if◌then◌else◌}
use Rattle.std.specs.Borrow.{Lends, MutBor, Fml, Array}
use Rattle.rb_glyph.specs.declared.info.hb_glyph_info_t.{hb_glyph_info_t}
use Rattle.rb_glyph.specs.contracts.info.hb_glyph_info_t as glyph
use Rattle.glyph_sides.specs.contracts.sides.Sides.{the_row}
use Rattle.glyph_sides.specs.TwoLists.{TwoLists}
use Rattle.glyph_sides.specs.LendingLists.{refilled}

-- where the glyph k places after the cursor lies in the input
abbrev pub place_of : TwoLists → ℕ → ℕ
place_of s k = if s.is_open then k else s.idx + k

abbrev pub with_cur : TwoLists → ℕ → hb_glyph_info_t → TwoLists
with_cur s k g = record s { input = slice_set s.input (place_of s k) g }

abbrev pub with_last : TwoLists → hb_glyph_info_t → TwoLists
with_last s g = record s { out = slice_set s.out (length s.out - 1) g }

abbrev pub with_input : TwoLists → List hb_glyph_info_t → TwoLists
with_input s gs = record s { input = refilled s.input gs }

abbrev pub with_out : TwoLists → List hb_glyph_info_t → TwoLists
with_out s gs = record s { out = refilled s.out gs }

-- the glyph k places after the cursor is lent
abbrev pub LendsCur : MutBor TwoLists → ℕ → MutBor hb_glyph_info_t → Fml
LendsCur s k r = Lends the_row glyph.the_row s r (with_cur s.now k)

-- the last glyph that was put out is lent
abbrev pub LendsLast : MutBor TwoLists → MutBor hb_glyph_info_t → Fml
LendsLast s r = Lends the_row glyph.the_row s r (with_last s.now)

-- the glyphs of the list are lent
abbrev pub LendsInput : MutBor TwoLists → MutBor (List hb_glyph_info_t) → Fml
LendsInput s r = Lends the_row (Array glyph.the_row 0) s r (with_input s.now)

-- the glyphs that were put out are lent
abbrev pub LendsOut : MutBor TwoLists → MutBor (List hb_glyph_info_t) → Fml
LendsOut s r = Lends the_row (Array glyph.the_row 0) s r (with_out s.now)
