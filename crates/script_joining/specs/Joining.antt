-- How letters join their neighbours: the Unicode Standard, section 9.2, and for Syriac section 9.3.
use Rattle.std.specs.Prelude.{ℕ, Bool, true, false, ◌&&◌, ◌||◌, ◌==◌, nat_le, if◌then◌else◌, List, [], ◌∷◌}
use Rattle.rb_glyph.specs.declared.category.hb_unicode_general_category_t.{hb_unicode_general_category_t}
use Rattle.rb_glyph.specs.declared.category.hb_unicode_general_category_t.TheVariants as own
use Rattle.rb_glyph.specs.declared.info.hb_glyph_info_t.{hb_glyph_info_t}
use Rattle.script_joining.specs.declared.joining.kind.JoiningType.{JoiningType}
use Rattle.script_joining.specs.declared.joining.kind.JoiningType.TheVariants.{NonJoining, Left, Right, Dual}
use Rattle.script_joining.specs.declared.joining.kind.JoiningType.TheVariants.{Alaph, DalathRish, Transparent}
use Rattle.script_joining.specs.declared.joining.form.ArabicAction.{ArabicAction}
use Rattle.script_joining.specs.declared.joining.form.ArabicAction.TheVariants.{Unformed, Isol, Fina, Fin2, Fin3}
use Rattle.script_joining.specs.declared.joining.form.ArabicAction.TheVariants.{Medi, Med2, Init, StchFixed, StchRepeating}
use Rattle.script_items.specs.Item.{shaper_byte, with_shaper_byte}

-- whether a letter joins to the next one
abbrev pub joins_next : JoiningType → Bool
joins_next Left = true
joins_next Dual = true
joins_next _ = false

-- whether a letter joins to the one before
abbrev pub joins_previous : JoiningType → Bool
joins_previous Right = true
joins_previous Dual = true
joins_previous Alaph = true
joins_previous DalathRish = true
joins_previous _ = false

-- whether two neighbours are joined
abbrev pub are_joined : JoiningType → JoiningType → Bool
are_joined a b = joins_next a && joins_previous b

-- the letter nearest to a place: the item next to it, and where that is transparent the nearest beyond
abbrev pub nearest : JoiningType → JoiningType → JoiningType
nearest Transparent beyond = beyond
nearest item beyond = item

-- the form by the sides on which a letter is joined
abbrev pub form_of_sides : Bool → Bool → ArabicAction
form_of_sides before after =
    if before then (if after then Medi else Fina) else if after then Init else Isol

-- the form of an alaph that ends a word and is not joined
abbrev pub last_alaph : JoiningType → ArabicAction
last_alaph DalathRish = Fin3
last_alaph Right = Fin2
last_alaph Alaph = Fin2
last_alaph _ = Isol

-- the form of an alaph: what is before it, and whether its word goes on
abbrev pub form_of_alaph : JoiningType → Bool → ArabicAction
form_of_alaph before goes_on =
    if joins_next before then (if goes_on then Med2 else Fina) else if goes_on then Isol else last_alaph before

-- the form of an item between the nearest letters before it and after it
abbrev pub form_between : JoiningType → JoiningType → JoiningType → ArabicAction
form_between before NonJoining after = Unformed
form_between before Transparent after = Unformed
form_between before Alaph after = form_of_alaph before (joins_previous after)
form_between before own after = form_of_sides (are_joined before own) (are_joined own after)

-- letters join across characters of these general categories, if Unicode does not list how they join
abbrev pub is_transparent : hb_unicode_general_category_t → Bool
is_transparent own.NonspacingMark = true
is_transparent own.EnclosingMark = true
is_transparent own.Format = true
is_transparent _ = false

-- ---- as items keep them

-- the type with a number
abbrev pub type_of_number : ℕ → JoiningType
type_of_number n =
    if n == 1 then Left else if n == 2 then Right else if n == 3 then Dual else if n == 4 then Alaph
    else if n == 5 then DalathRish else if n == 6 then Transparent else NonJoining

-- the number of a type
abbrev pub number_of_type : JoiningType → ℕ
number_of_type NonJoining = 0
number_of_type Left = 1
number_of_type Right = 2
number_of_type Dual = 3
number_of_type Alaph = 4
number_of_type DalathRish = 5
number_of_type Transparent = 6

-- the number of a form
abbrev pub number_of_form : ArabicAction → ℕ
number_of_form Unformed = 0
number_of_form Isol = 1
number_of_form Fina = 2
number_of_form Fin2 = 3
number_of_form Fin3 = 4
number_of_form Medi = 5
number_of_form Med2 = 6
number_of_form Init = 7
number_of_form StchFixed = 8
number_of_form StchRepeating = 9

-- ---- a whole text

-- the type that an item keeps
abbrev pub kind : hb_glyph_info_t → JoiningType
kind g = type_of_number (shaper_byte g)

-- the nearest letter of a list, and where it has none the nearest beyond
abbrev pub first_letter : List hb_glyph_info_t → JoiningType → JoiningType
first_letter [] beyond = beyond
first_letter (g ∷ gs) beyond = nearest (kind g) (first_letter gs beyond)

-- Each item with its form in place of its type, where `before` is the nearest letter before the list and `beyond` the nearest
-- after it.
abbrev pub with_forms : JoiningType → List hb_glyph_info_t → JoiningType → List hb_glyph_info_t
with_forms before [] beyond = []
with_forms before (g ∷ gs) beyond =
    with_shaper_byte (number_of_form (form_between before (kind g) (first_letter gs beyond))) g
    ∷ with_forms (nearest (kind g) before) gs beyond

-- the Mongolian variation selectors
abbrev pub is_mongolian_selector : ℕ → Bool
is_mongolian_selector c = (nat_le 0x180B c && nat_le c 0x180D) || c == 0x180F

-- a selector keeps this form in place of its own
unfoldable pub with_form_behind : ℕ → hb_glyph_info_t → hb_glyph_info_t
with_form_behind form g = if is_mongolian_selector g.glyph_id then with_shaper_byte form g else g

-- each selector keeps that of the item before it, which may be one
abbrev pub formed_behind : hb_glyph_info_t → List hb_glyph_info_t → List hb_glyph_info_t
formed_behind before [] = []
formed_behind before (g ∷ gs) =
    with_form_behind (shaper_byte before) g ∷ formed_behind (with_form_behind (shaper_byte before) g) gs

abbrev pub selectors_formed : List hb_glyph_info_t → List hb_glyph_info_t
selectors_formed [] = []
selectors_formed (g ∷ gs) = g ∷ formed_behind g gs
