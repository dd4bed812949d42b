-- Letters at the edges of a text that is turned: the last stands behind the letter before the text, and the first before the one behind it.
use Rattle.std.specs.Prelude.{ℕ, Bool, false, not, ◌==◌, ◌||◌, if◌then◌else◌}
use Rattle.rb_glyph.specs.declared.info.hb_glyph_info_t.{hb_glyph_info_t}
use Rattle.script_joining.specs.declared.joining.kind.JoiningType.{JoiningType}
use Rattle.script_joining.specs.declared.joining.kind.JoiningType.TheVariants.{Left, Right, Dual, Alaph, DalathRish}
use Rattle.script_joining.specs.Joining.{joins_next, joins_previous}
use Rattle.script_items.specs.Marks.{category}
use Rattle.ot_characters.specs.declared.turned_contexts.Edges.{Edges}

-- nonspacing and enclosing marks, and format characters
abbrev pub is_transparent : hb_glyph_info_t → Bool
is_transparent g = category g == 12 || (category g == 11 || category g == 1)

-- what a letter is to an alaph behind it, which has a form of its own for each
abbrev pub side_of : JoiningType → ℕ
side_of Left = 1
side_of Dual = 1
side_of DalathRish = 2
side_of Right = 3
side_of Alaph = 3
side_of _ = 0

abbrev pub differ : Bool → Bool → Bool
differ a b = if a then not b else b

-- the form of a letter differs as one or another stands before it
abbrev pub differs_by_previous : JoiningType → JoiningType → JoiningType → Bool
differs_by_previous Right one other = differ (joins_next one) (joins_next other)
differs_by_previous Dual one other = differ (joins_next one) (joins_next other)
differs_by_previous DalathRish one other = differ (joins_next one) (joins_next other)
differs_by_previous Alaph one other = not (side_of one == side_of other)
differs_by_previous _ one other = false

-- and as one or another stands behind it
abbrev pub differs_by_next : JoiningType → JoiningType → JoiningType → Bool
differs_by_next Left one other = differ (joins_previous one) (joins_previous other)
differs_by_next Dual one other = differ (joins_previous one) (joins_previous other)
differs_by_next Alaph one other = differ (joins_previous one) (joins_previous other)
differs_by_next _ one other = false

-- a part that ends with one letter, or begins with the next, is the context of an edge of the other part, and its letter there heeds it
abbrev pub is_heeded : Edges → JoiningType → JoiningType → Bool
is_heeded edges one next =
    differs_by_previous edges.last one edges.before || differs_by_next edges.first next edges.behind
