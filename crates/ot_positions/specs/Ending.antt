-- Glyphs that are not to be seen (HarfBuzz, `hb_ot_deal_with_variation_selectors`, `hb_ot_hide_default_ignorables`).
use Rattle.std.specs.Prelude.{◌≡◌, ℕ, Bool, true, false, ◌==◌, ◌||◌, not, map, Option, Some, None, IsSome, is_none, is_some, option_map}
use Rattle.std.specs.Prelude.{bit_and, if◌then◌else◌}
use Rattle.rb_common.specs.declared.glyph_id.GlyphId.{GlyphId}
use Rattle.rb_glyph.specs.declared.flag_sets.TheConstants.BufferFlags.{REMOVE_DEFAULT_IGNORABLES}
use Rattle.rb_glyph.specs.declared.info.hb_glyph_info_t.{hb_glyph_info_t}
use Rattle.rb_glyph.specs.declared.scratch.TheConstants.{HB_BUFFER_SCRATCH_FLAG_HAS_DEFAULT_IGNORABLES}
use Rattle.rb_glyph.specs.declared.scratch.TheConstants.{HB_BUFFER_SCRATCH_FLAG_HAS_VARIATION_SELECTOR_FALLBACK}
use Rattle.shaping_buffer.specs.ClusterStep.{asks}
use Rattle.shaping_buffer.specs.State.{State}
use Rattle.shaping_buffer.specs.Step.{with_id}
use Rattle.shaping_passes.specs.Ignorables.{hide_default_ignorables}
use Rattle.script_items.specs.Selectors.{is_unknown_selector, with_category}
use Rattle.ot_positions.specs.ClusterFlags.{share_flags}
use Rattle.ot_positions.specs.Widths.{changed, where_glyph, without_width}

-- ---- variation selectors

-- the text has some that the font does not know
abbrev pub has_unknown_selectors : State → Bool
has_unknown_selectors s = not (bit_and s.scratch_flags HB_BUFFER_SCRATCH_FLAG_HAS_VARIATION_SELECTOR_FALLBACK == 0)

-- the item is one of them
unfoldable pub is_selector : hb_glyph_info_t → Bool
is_selector g = is_unknown_selector g

-- such a selector is a mark without width, with the glyph that stands for it
unfoldable pub shown_selector : ℕ → hb_glyph_info_t → hb_glyph_info_t
shown_selector glyph g = if is_selector g then with_category 12 (with_id glyph g) else g

-- each of them takes no room
abbrev pub narrow_selectors : State → State
narrow_selectors s = changed (where_glyph is_selector without_width) s

-- and has that glyph
abbrev pub selectors_shown : ℕ → State → State
selectors_shown glyph s = record (narrow_selectors s) { input = map (shown_selector glyph) s.input }

abbrev pub shown_by : Option ℕ → State → State
shown_by None s = s
shown_by (Some glyph) s = selectors_shown glyph s

-- `show_variation_selectors`
abbrev pub show_variation_selectors : State → State
show_variation_selectors s = if has_unknown_selectors s then shown_by s.not_found_variation_selector s else s

-- ---- characters that are invisible by default

-- the text has some
abbrev pub has_ignorables : State → Bool
has_ignorables s = not (bit_and s.scratch_flags HB_BUFFER_SCRATCH_FLAG_HAS_DEFAULT_IGNORABLES == 0)

-- the glyph that stands for them is the buffer's, or else that of the font's space, if the font has one
pub record StandsForThem (has : ℕ → Bool) (may_have : ℕ → Option ℕ → Type 0) (invisible glyph : Option GlyphId) : Type 0 where
  pub own : IsSome invisible → glyph ≡ invisible
  pub there : invisible ≡ None → is_some glyph ≡ has 0x20
  pub space : invisible ≡ None → may_have 0x20 (option_map (λ g. g.0) glyph)

-- they are taken out where no glyph stands for them, and where the flags say so
abbrev pub are_removed : State → Bool
are_removed s = is_none s.invisible || asks REMOVE_DEFAULT_IGNORABLES s

-- each cluster shares its glyph flags before
abbrev pub flags_shared : State → State
flags_shared s = if are_removed s then share_flags s else s

-- they are hidden by the glyph that stands for them
abbrev pub hidden_by : Option GlyphId → State → State
hidden_by glyph s = record (hide_default_ignorables (flags_shared (record s { invisible = glyph }))) { invisible = s.invisible }

-- `hide_ignorables`
pub record Hides (has : ℕ → Bool) (may_have : ℕ → Option ℕ → Type 0) (old new : State) : Type 0 where
  pub none : has_ignorables old ≡ false → new ≡ old
  pub some : has_ignorables old ≡ true
      → (glyph : Option GlyphId) × (StandsForThem has may_have old.invisible glyph × (new ≡ hidden_by glyph old))
