-- Slices that are lent on.
use Rattle.std.specs.Prelude.{ℕ, List, length, take}
use Rattle.std.specs.List.{refill}
use Rattle.std.specs.Global.{Vec}
use Rattle.std.specs.Vec.{with_items_from}
use Rattle.std.specs.Borrow.{Lends, MutBor, Fml, Array, RattleType}
use Rattle.std.specs.contracts.vec.Vec.{the_row as vec_row}
use Rattle.std.specs.contracts.alloc.Global as global
use Rattle.std.specs.contracts.impls.GlobalAllocator.TheImpl.{ghosts}
use Rattle.rb_glyph.specs.declared.info.hb_glyph_info_t.{hb_glyph_info_t}
use Rattle.rb_glyph.specs.contracts.info.hb_glyph_info_t as glyph

-- the second list in place of the first, cut to the length of the first, and filled up from it
abbrev pub refilled : {X : Type 0} → List X → List X → List X
refilled xs ws = refill (length xs) xs ws

abbrev pub glyphs_row : RattleType
glyphs_row = vec_row glyph.the_row global.the_row ghosts

-- what was written through a part, from the start on
abbrev pub LendsStart : MutBor (Vec hb_glyph_info_t) → MutBor (List hb_glyph_info_t) → Fml
LendsStart s r = Lends glyphs_row (Array glyph.the_row 0) s r (with_items_from s.now 0)

-- the first n written over, and no others
abbrev pub with_front : Vec hb_glyph_info_t → ℕ → List hb_glyph_info_t → Vec hb_glyph_info_t
with_front v n ws = with_items_from v 0 (refilled (take n v.items) ws)

abbrev pub LendsFront : MutBor (Vec hb_glyph_info_t) → ℕ → MutBor (List hb_glyph_info_t) → Fml
LendsFront s n r = Lends glyphs_row (Array glyph.the_row 0) s r (with_front s.now n)
