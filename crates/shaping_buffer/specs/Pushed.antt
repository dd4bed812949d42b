-- The pushed text: the glyphs of a text before it is shaped.
use Rattle.std.specs.Prelude.{ℕ, List, [], ◌∷◌, ◌++◌, length}
use Rattle.std.specs.Str.{chars}
use Rattle.rb_glyph.specs.declared.info.hb_glyph_info_t.{hb_glyph_info_t}
use Rattle.glyph_sides.specs.TextGlyphs.{character, glyphs_at}
use Rattle.shaping_buffer.specs.State.{State}
use Rattle.shaping_buffer.specs.Step.{Outcome, limited}

-- these glyphs stand at the end of the list
abbrev pub grown : List hb_glyph_info_t → State → Outcome
grown xs s = limited (length (s.input ++ xs)) s (record s { input = s.input ++ xs })

-- `push_str`: the glyphs of the text, numbered from its first byte, stand at the end of the list
abbrev pub pushed : List ℕ → State → Outcome
pushed text s = grown (glyphs_at 0 (chars text)) s

-- `add`: one character, with a cluster of the caller's, stands at the end of the list, and the text after it is
-- forgotten
abbrev pub added : ℕ → ℕ → State → Outcome
added c cluster s =
    let list = s.input ++ character c cluster ∷ [] in
    limited (length list) s (record s { input = list; post_context = [] })
