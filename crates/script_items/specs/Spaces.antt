-- Spaces, by the properties that are kept of each character.
use Rattle.std.specs.Prelude.{ℕ, ◌*◌, ◌/◌, ◌==◌, Bool, bit_and, bit_or, if◌then◌else◌}
use Rattle.rb_glyph.specs.Fields.{field, with_field}
use Rattle.rb_glyph.specs.declared.info.hb_glyph_info_t.{hb_glyph_info_t}
use Rattle.script_items.specs.Marks.{category}

-- a space has the general category of separators
abbrev pub is_space : hb_glyph_info_t → Bool
is_space g = category g == 29

-- the kind that is kept of a space in the high byte of its properties; any other character has kind 0
abbrev pub kept_kind : hb_glyph_info_t → ℕ
kept_kind g = if is_space g then field g.var2 0 16 / 256 else 0

-- the space with this kind in the high byte of its properties
abbrev pub with_kind : ℕ → hb_glyph_info_t → hb_glyph_info_t
with_kind kind g = record g { var2 = with_field g.var2 0 16 (bit_or (kind * 256) (bit_and (field g.var2 0 16) 0xFF)) }
