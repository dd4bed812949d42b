-- The base of a syllable, and its reph (OpenType, "Developing OpenType Fonts for Devanagari Script"; HarfBuzz,
-- `initial_reordering_consonant_syllable`).
use Rattle.std.specs.Prelude.{ℕ, zero, suc, ◌-◌, ◌==◌, ◌&&◌, ◌||◌, Bool, true, false, not, List, [], ◌∷◌, length, take}
use Rattle.std.specs.Bool.{then_some}
use Rattle.std.specs.Prelude.{Option, Some, None, nat_le, nat_lt, slice_index_or, unwrap_or, if◌then◌else◌}
use Rattle.glyph_lists.specs.Clusters.{zero_glyph}
use Rattle.rb_glyph.specs.declared.info.hb_glyph_info_t.{hb_glyph_info_t}
use Rattle.script_syllables.specs.Item.{behind_joiners, is_joiner, is_of, is_one, stands_at}
use Rattle.script_syllables.specs.Item as items
use Rattle.script_syllables.specs.declared.category.Category.TheVariants as own
use Rattle.script_syllables.specs.declared.category.position.Position.TheVariants as spot
use Rattle.script_indic.specs.declared.base.Base.{Base}
use Rattle.script_indic.specs.declared.base.BaseSearch.{BaseSearch}
use Rattle.script_indic.specs.declared.configuration.RephMode.{RephMode}
use Rattle.script_indic.specs.declared.configuration.RephMode.TheVariants.{Implicit, Explicit, Encoded}
use Rattle.script_indic.specs.declared.plan.IndicPlan.{IndicPlan}

-- ---- items

abbrev pub is_consonant : hb_glyph_info_t → Bool
is_consonant g = items.is_consonant g || is_one own.ConsonantMedial g

abbrev pub glyph_at : List hb_glyph_info_t → ℕ → hb_glyph_info_t
glyph_at l k = slice_index_or l k zero_glyph

-- the glyphs of the first items, two or three
abbrev pub ids : List hb_glyph_info_t → ℕ → List ℕ
ids l n = take n ((glyph_at l 0).glyph_id ∷ (glyph_at l 1).glyph_id ∷ (glyph_at l 2).glyph_id ∷ [])

-- ---- the reph

-- what may stand behind RA and a halant: no joiner, or in Telugu a zero width joiner
abbrev pub allows_reph : RephMode → hb_glyph_info_t → Bool
allows_reph Implicit third = not (is_joiner third)
allows_reph Explicit third = is_of own.Joiner third
allows_reph Encoded third = false

-- the font is asked for a reph: it has the feature, and three items are there
abbrev pub may_form_reph : IndicPlan → List hb_glyph_info_t → Bool
may_form_reph plan l =
    nat_lt 2 (length l) && (not (plan.masks.rphf == 0) && allows_reph plan.configuration.reph_mode (glyph_at l 2))

-- RA and a halant are asked for, and in Telugu the joiner with them
abbrev pub is_explicit : RephMode → Bool
is_explicit Explicit = true
is_explicit _ = false

abbrev pub asked_reph : (List ℕ → Bool) → RephMode → List hb_glyph_info_t → Option ℕ
asked_reph test mode l = then_some (test (ids l 2) || (is_explicit mode && test (ids l 3))) 2

-- a character of its own, in Malayalam
abbrev pub begins_with_reph : List hb_glyph_info_t → Bool
begins_with_reph l = nat_lt 0 (length l) && is_of own.Repha (glyph_at l 0)

abbrev pub encoded_reph : RephMode → List hb_glyph_info_t → Option ℕ
encoded_reph Encoded l = then_some (begins_with_reph l) 1
encoded_reph _ l = None

-- how many items make a reph, where the font makes one of glyphs that pass a test
abbrev pub reph_length : (List ℕ → Bool) → IndicPlan → List hb_glyph_info_t → Option ℕ
reph_length test plan l =
    if may_form_reph plan l then asked_reph test plan.configuration.reph_mode l
    else encoded_reph plan.configuration.reph_mode l

-- ---- the base: "starting from the end of the syllable, move backwards until a consonant is found"

-- "that does not have a below-base or post-base form (post-base forms have to follow below-base forms)"
abbrev pub is_full : Bool → hb_glyph_info_t → Bool
is_full seen_below g = not (stands_at spot.Below g) && (not (stands_at spot.Post g) || seen_below)

-- a zero width joiner behind a halant, which asks for a half form of the consonant before
abbrev pub ends_half_form : List hb_glyph_info_t → ℕ → Bool
ends_half_form l k = nat_lt 0 k && (is_of own.Joiner (glyph_at l k) && is_of own.Halant (glyph_at l (k - 1)))

-- at a place
abbrev pub looked_at : List hb_glyph_info_t → ℕ → ℕ → BaseSearch → BaseSearch
looked_at l limit k walk =
    let g = glyph_at l k in
    if is_consonant g then
    record {
      base = Some k;
      seen_below = walk.seen_below || stands_at spot.Below g;
      is_over = nat_le k limit || is_full walk.seen_below g;
    }
    else record walk { is_over = nat_le k limit || ends_half_form l k }

-- of the first n items, from the last of them back
abbrev pub searched : List hb_glyph_info_t → ℕ → ℕ → BaseSearch → Option ℕ
searched l limit zero walk = walk.base
searched l limit (suc n) walk =
    let after = looked_at l limit n walk in
    if after.is_over then after.base else searched l limit n after

abbrev pub begun : BaseSearch
begun = record { base = None; seen_below = false; is_over = false }

-- the base from the end of the syllable back to a limit
abbrev pub last_base : List hb_glyph_info_t → ℕ → Option ℕ
last_base l limit = searched l limit (length l) begun

-- "if the syllable starts with Ra + Halant (in a script that has Reph) and has more than one consonant, Ra is excluded from candidates for
-- base consonants": the joiners behind it too
abbrev pub base_of : List hb_glyph_info_t → Option ℕ → Base
base_of l None = record { place = unwrap_or (last_base l 0) (length l); has_reph = false }
base_of l (Some n) =
    let limit = behind_joiners l n in
    let found = unwrap_or (last_base l limit) 0 in
    record { place = found; has_reph = nat_lt 0 found || nat_lt 2 limit }
