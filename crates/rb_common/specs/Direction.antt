use Rattle.std.specs.Prelude.{ℕ, Bool, true, false, List, [], ◌∷◌, Option, Some, None, ◌==◌, if◌then◌else◌, codes}
use Rattle.std.specs.List.{list_any}
use Rattle.std.specs.Char.{to_ascii_lowercase}
use Rattle.rb_common.specs.Ascii.{small_b, small_l, small_r, small_t}
use Rattle.rb_common.specs.Tag.{tag_of}
use Rattle.rb_common.specs.declared.direction.Direction.{Direction}
use Rattle.rb_common.specs.declared.direction.Direction.TheVariants.{Invalid, LeftToRight, RightToLeft, TopToBottom}
use Rattle.rb_common.specs.declared.direction.Direction.TheVariants.{BottomToTop}

abbrev pub is_horizontal : Direction → Bool
is_horizontal Invalid = false
is_horizontal LeftToRight = true
is_horizontal RightToLeft = true
is_horizontal TopToBottom = false
is_horizontal BottomToTop = false

-- forward, as HarfBuzz says it: from left to right or from top to bottom
abbrev pub is_forward : Direction → Bool
is_forward Invalid = false
is_forward LeftToRight = true
is_forward RightToLeft = false
is_forward TopToBottom = true
is_forward BottomToTop = false

abbrev pub reverse : Direction → Direction
reverse Invalid = Invalid
reverse LeftToRight = RightToLeft
reverse RightToLeft = LeftToRight
reverse TopToBottom = BottomToTop
reverse BottomToTop = TopToBottom

-- the scripts that run from right to left, by their ISO 15924 tags
abbrev pub right_to_left : List ℕ
right_to_left =
    tag_of (codes "Arab") ∷ tag_of (codes "Hebr") ∷ tag_of (codes "Syrc") ∷ tag_of (codes "Thaa") ∷
    tag_of (codes "Cprt") ∷ tag_of (codes "Khar") ∷ tag_of (codes "Phnx") ∷ tag_of (codes "Nkoo") ∷
    tag_of (codes "Lydi") ∷ tag_of (codes "Avst") ∷ tag_of (codes "Armi") ∷ tag_of (codes "Phli") ∷
    tag_of (codes "Prti") ∷ tag_of (codes "Sarb") ∷ tag_of (codes "Orkh") ∷ tag_of (codes "Samr") ∷
    tag_of (codes "Mand") ∷ tag_of (codes "Merc") ∷ tag_of (codes "Mero") ∷ tag_of (codes "Mani") ∷
    tag_of (codes "Mend") ∷ tag_of (codes "Nbat") ∷ tag_of (codes "Narb") ∷ tag_of (codes "Palm") ∷
    tag_of (codes "Phlp") ∷ tag_of (codes "Hatr") ∷ tag_of (codes "Adlm") ∷ tag_of (codes "Rohg") ∷
    tag_of (codes "Sogo") ∷ tag_of (codes "Sogd") ∷ tag_of (codes "Elym") ∷ tag_of (codes "Chrs") ∷
    tag_of (codes "Yezi") ∷ tag_of (codes "Ougr") ∷
    []

-- the scripts that run either way
abbrev pub either_way : List ℕ
either_way = tag_of (codes "Hung") ∷ tag_of (codes "Ital") ∷ tag_of (codes "Runr") ∷ tag_of (codes "Tfng") ∷ []

abbrev pub direction_of : ℕ → Option Direction
direction_of script =
    if list_any (λ tag. tag == script) right_to_left then Some RightToLeft
    else if list_any (λ tag. tag == script) either_way then None
    else Some LeftToRight

-- the direction that a small letter names
abbrev pub direction_of_letter : ℕ → Option Direction
direction_of_letter letter =
    if letter == small_l then Some LeftToRight
    else if letter == small_r then Some RightToLeft
    else if letter == small_t then Some TopToBottom
    else if letter == small_b then Some BottomToTop
    else None

-- the direction that the first byte of a text names, in either case: l, r, t or b
abbrev pub direction_of_text : List ℕ → Option Direction
direction_of_text [] = None
direction_of_text (b ∷ bs) = direction_of_letter (to_ascii_lowercase b)
