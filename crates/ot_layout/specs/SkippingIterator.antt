-- Where a walk over the glyphs that a lookup does not pass over ends.
use Rattle.std.specs.Prelude.{ℕ, ◌+◌, ◌-◌, ◌^◌, ◌==◌, ◌&&◌, ◌||◌, [], ◌∷◌, Bool, true, false, not, List, Option, Some, None, zero, suc, length, drop, is_some, nat_lt, if◌then◌else◌, bit_and, ⊤, ◌<◌}
use Rattle.rb_glyph.specs.declared.info.hb_glyph_info_t.{hb_glyph_info_t}
use Rattle.rb_glyph.specs.Fields.{field}
use Rattle.font_tables.specs.ClassDefinition.{class_of}
use Rattle.glyph_digests.specs.Covered.{covered_index}
use Rattle.ot_lookups.specs.LookupProps.{glyph_at, passes_over, props, share}
use Rattle.ot_lookups.specs.declared.lookup_props.LookupProps.{LookupProps}
use Rattle.ot_layout.specs.declared.skipping_iterator.LookupOptions.{LookupOptions}
use Rattle.ot_layout.specs.declared.skipping_iterator.SkippingIterator.{SkippingIterator}
use Rattle.ot_layout.specs.declared.skipping_iterator.Found.{Found}
use Rattle.ot_layout.specs.declared.skipping_iterator.Found.TheVariants.{At, Other, End}
use Rattle.ot_layout.specs.declared.skipping_iterator.Skip.{Skip}
use Rattle.ot_layout.specs.declared.skipping_iterator.Skip.TheVariants.{No, Maybe, Yes}
use Rattle.ot_layout.specs.declared.matcher.Matcher.{Matcher}
use Rattle.ot_layout.specs.declared.matcher.Matcher.TheVariants.{Shown, Any, Glyph, Class, Covered}

-- the class of a glyph of a buffer; 0 past 65,535
abbrev pub class_in : List ℕ → ℕ → ℕ
class_in classes glyph = if nat_lt 65535 glyph then 0 else class_of classes glyph

-- whether these are the Unicode properties of a format character with this one
abbrev pub is_format_with : ℕ → ℕ → Bool
is_format_with unicode property = (bit_and unicode 31 == 1) && share unicode property

-- whether a glyph is invisible by default (bit 5), was not substituted, and is of a kind that the iterator may pass over: the
-- zero width non-joiner (bit 9) and joiner (bit 8), and what stays hidden (bit 6), are so only where the iterator says it
unfoldable pub may_ignore : SkippingIterator → ℕ → ℕ → Bool
may_ignore w unicode props =
    share unicode 32 && not (share props 16) && (w.ignores_zwnj || not (is_format_with unicode 512))
    && (w.ignores_zwj || not (is_format_with unicode 256)) && (w.ignores_hidden || not (share unicode 64))

-- whether a glyph has one of the features' bits, and is of the syllable
unfoldable pub is_within : SkippingIterator → hb_glyph_info_t → Bool
is_within w g = share g.mask w.mask && ((w.syllable == 0) || (w.syllable == field g.var1 24 8))

-- whether a glyph is what is asked for
abbrev pub fits : Matcher → ℕ → Bool
fits Shown glyph = false
fits Any glyph = true
fits (Glyph number) glyph = number == glyph
fits (Class classes class) glyph = class_in classes.table.now glyph == class
fits (Covered coverage) glyph = is_some (covered_index coverage.table.now glyph)

-- whether nothing is asked
abbrev pub is_shown : Matcher → Bool
is_shown Shown = true
is_shown Any = false
is_shown (Glyph number) = false
is_shown (Class classes class) = false
is_shown (Covered coverage) = false

-- whether a walk goes on after a glyph: one that may be passed over is passed over unless it is what is asked for
unfoldable pub passes : SkippingIterator → Matcher → hb_glyph_info_t → Bool
passes w matcher g =
    passes_over w.lookup_props g
    || (may_ignore w (field g.var2 0 16) (props g) && not (is_within w g && fits matcher g.glyph_id))

-- whether a glyph at which a walk stays is what is asked for
unfoldable pub matches : SkippingIterator → Matcher → hb_glyph_info_t → Bool
matches w matcher g = is_within w g && (is_shown matcher || fits matcher g.glyph_id)

-- how many glyphs at the head of a list are passed over
abbrev pub passed_over : (hb_glyph_info_t → Bool) → List hb_glyph_info_t → ℕ
passed_over pass [] = 0
passed_over pass (g ∷ gs) = if pass g then suc (passed_over pass gs) else 0

-- the first place from this one on whose glyph is not passed over, or the length of the list
abbrev pub first_kept : (hb_glyph_info_t → Bool) → List hb_glyph_info_t → ℕ → ℕ
first_kept pass gs i = i + passed_over pass (drop i gs)

-- where one comes to going back from a place over the glyphs that are passed over: after one that is not, or to the start
abbrev pub kept_before : (hb_glyph_info_t → Bool) → List hb_glyph_info_t → ℕ → ℕ
kept_before pass gs zero = 0
kept_before pass gs (suc i) = if pass (glyph_at gs i) then kept_before pass gs i else suc i

-- the answer of a walk that stays at a place
abbrev pub found_at : SkippingIterator → Matcher → List hb_glyph_info_t → ℕ → Found
found_at w matcher gs i = if matches w matcher (glyph_at gs i) then At i else Other i

-- the next glyph after a place
unfoldable pub next_found : SkippingIterator → Matcher → List hb_glyph_info_t → ℕ → Found
next_found w matcher gs i =
    let next = first_kept (passes w matcher) gs (i + 1) in
    if nat_lt next (length gs) then found_at w matcher gs next else End

-- the last glyph before a place
unfoldable pub previous_found : SkippingIterator → Matcher → List hb_glyph_info_t → ℕ → Found
previous_found w matcher gs i =
    let end = kept_before (passes w matcher) gs i in
    if end == 0 then End else found_at w matcher gs (end - 1)

-- the iterator over the glyphs that a lookup changes or positions: those with a bit of the feature; joiners may be passed over where the
-- feature says so, non-joiners and what is hidden where glyphs are positioned
abbrev pub over_input : LookupProps → LookupOptions → Bool → SkippingIterator
over_input lookup_props options is_positioning = record {
  lookup_props = lookup_props;
  mask = options.mask;
  ignores_zwnj = is_positioning;
  ignores_zwj = options.auto_zwj;
  ignores_hidden = is_positioning;
  syllable = 0;
}

-- the iterator over the glyphs around them, whatever their features: joiners may be passed over, and non-joiners where the feature says so
abbrev pub over_context : LookupProps → LookupOptions → Bool → SkippingIterator
over_context lookup_props options is_positioning = record {
  lookup_props = lookup_props;
  mask = 2 ^ 32 - 1;
  ignores_zwnj = is_positioning || options.auto_zwnj;
  ignores_zwj = true;
  ignores_hidden = is_positioning;
  syllable = 0;
}

-- what a walk does at a glyph, before it asks what is wanted
abbrev pub skip_of : SkippingIterator → hb_glyph_info_t → Skip
skip_of w g =
    if passes_over w.lookup_props g then Yes else if may_ignore w (field g.var2 0 16) (props g) then Maybe else No

-- the place of an answer is after a place, and in a list of this length
abbrev pub IsBehind : Found → ℕ → ℕ → Type 0
IsBehind (At next) i n = (i < next) × (next < n)
IsBehind (Other next) i n = (i < next) × (next < n)
IsBehind End i n = ⊤

-- the place of an answer is before a place
abbrev pub IsBefore : Found → ℕ → Type 0
IsBefore (At before) i = before < i
IsBefore (Other before) i = before < i
IsBefore End i = ⊤

-- the place of an answer, where the glyph there is what is asked for
abbrev pub place_of : Found → Option ℕ
place_of (At place) = Some place
place_of (Other place) = None
place_of End = None
