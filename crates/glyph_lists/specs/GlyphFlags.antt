-- Glyph flags: what the low bits of a mask say together. Bit 0 says unsafe to break, bit 1 unsafe to concatenate.
use Rattle.std.specs.Prelude.{ℕ, List, All, IsBitSet}
use Rattle.rb_glyph.specs.declared.info.hb_glyph_info_t.{hb_glyph_info_t}

-- what is unsafe to break is unsafe to concatenate too
abbrev pub BreakImpliesConcat : ℕ → Type 0
BreakImpliesConcat mask = IsBitSet mask 0 → IsBitSet mask 1

-- so it is at each glyph of the list
abbrev pub FlagsAgree : List hb_glyph_info_t → Type 0
FlagsAgree l = All (λ g. BreakImpliesConcat g.mask) l
