-- The script and the direction that are guessed from the characters of a text.
use Rattle.std.specs.Prelude.{ℕ, Bool, not, List, Option, Some, None, map, unwrap_or, ◌==◌, ◌||◌, codes}
use Rattle.std.specs.List.{All, find}
use Rattle.std.specs.Char.{IsScalar}
use Rattle.rb_common.specs.Tag.{tag_of}
use Rattle.rb_common.specs.Direction.{direction_of}
use Rattle.rb_common.specs.declared.direction.Direction.{Direction}
use Rattle.rb_common.specs.declared.direction.Direction.TheVariants.{LeftToRight}
use Rattle.rb_glyph.specs.Scripts.{script_of_char}
use Rattle.rb_glyph.specs.declared.info.hb_glyph_info_t.{hb_glyph_info_t}

-- the items stand for characters still, not for glyphs of a font
abbrev pub AreCharacters : List hb_glyph_info_t → Type 0
AreCharacters info = All (λ g. IsScalar g.glyph_id) info

-- the script of a text of which none was said
abbrev pub unknown_script : ℕ
unknown_script = tag_of (codes "Zzzz")

-- the script says nothing of the text: COMMON, INHERITED or UNKNOWN
abbrev pub is_neutral : ℕ → Bool
is_neutral script =
    script == tag_of (codes "Zyyy") || script == tag_of (codes "Zinh") || script == tag_of (codes "Zzzz")

-- the scripts of the characters, in order
abbrev pub scripts_of : List hb_glyph_info_t → List ℕ
scripts_of info = map (λ g. script_of_char g.glyph_id) info

-- the first script that says something of the text
abbrev pub guessed_script : List hb_glyph_info_t → Option ℕ
guessed_script info = find (λ script. not (is_neutral script)) (scripts_of info)

-- the direction of a script, and from left to right where there is no script or one that is written either way
abbrev pub guessed_direction : Option ℕ → Direction
guessed_direction None = LeftToRight
guessed_direction (Some script) = unwrap_or (direction_of script) LeftToRight
