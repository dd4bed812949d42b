-- What the glyphs after the cursor, looked at once for many rules, say of a rule.
use Rattle.std.specs.Prelude.{◌≡◌, ◌≢◌, ◌&&◌, ℕ, Bool, true, List, None}
use Rattle.rb_glyph.specs.declared.info.hb_glyph_info_t.{hb_glyph_info_t}
use Rattle.ot_layout.specs.SkippingIterator.{next_found, place_of}
use Rattle.ot_layout.specs.declared.matcher.Matcher.TheVariants.{Glyph}
use Rattle.ot_layout.specs.declared.skipping_iterator.SkippingIterator.{SkippingIterator}
use Rattle.ot_contexts.specs.Pattern.{Pattern}
use Rattle.ot_contexts.specs.RuleSet.{asks_nothing, fits_at, fits_second}
use Rattle.ot_contexts.specs.declared.neighbours.Next.{Next}
use Rattle.ot_contexts.specs.declared.neighbours.Neighbours.{Neighbours}
use Rattle.ot_contexts.specs.declared.neighbours.Neighbours.TheVariants.{Unseen, Absent, Seen}

-- whether a rule may fit
abbrev pub may_fit : Neighbours → Pattern → Bool
may_fit Unseen p = true
may_fit Absent p = asks_nothing p
may_fit (Seen first second) p = fits_at p 0 first.glyph && fits_second p second

-- whoever asks for another glyph after the cursor does not find it
abbrev pub IsNext : SkippingIterator → List hb_glyph_info_t → ℕ → Next → Type 0
IsNext iterator glyphs place next =
    (asked : ℕ) → asked ≢ next.glyph → place_of (next_found iterator (Glyph asked) glyphs place) ≡ None
