-- The features of syllables by where they stand in a word (HarfBuzz, `setup_topographical_masks`).
use Rattle.std.specs.Prelude.{◌≡◌, ℕ, ◌-◌, ◌^◌, ◌==◌, ◌||◌, ◌&&◌, Bool, true, false, not, List, [], ◌∷◌, codes}
use Rattle.std.specs.Prelude.{zero, suc, length, Option, Some, None, bit_and, bit_or, is_none, nat_le, nat_lt, if◌then◌else◌}
use Rattle.glyph_lists.specs.Groups.{group_end, share_syllable}
use Rattle.rb_glyph.specs.declared.info.hb_glyph_info_t.{hb_glyph_info_t}
use Rattle.shaping_buffer.specs.State.{State, len}
use Rattle.shaping_buffer.specs.ClusterStep.{unsafe_to_break}
use Rattle.ot_map.specs.declared.plan.LayoutPlan.{LayoutPlan}
use Rattle.script_syllables.specs.Item.{items_between, kind_at}
use Rattle.script_syllables.specs.SyllableFeatures.{IsOneMask}
use Rattle.script_universal.specs.declared.universal.flags.Joined.{Joined}
use Rattle.script_universal.specs.declared.universal.masks.JoiningForm.{JoiningForm}
use Rattle.script_universal.specs.declared.universal.masks.JoiningForm.TheVariants.{Unformed, Alone, Last}
use Rattle.script_universal.specs.declared.universal.plan.FormMasks.{FormMasks}

-- ---- the masks of a font

-- the mask of a form, which has none where every glyph has the feature
abbrev pub IsFormMask : LayoutPlan → List ℕ → ℕ → Type 0
IsFormMask layout name mask =
    (one : ℕ) × (IsOneMask layout name one × (mask ≡ (if one == layout.global_mask then 0 else one)))

pub record AreFormMasks (layout : LayoutPlan) (masks : FormMasks) : Type 0 where
  pub isol : IsFormMask layout (codes "isol") masks.isol
  pub init : IsFormMask layout (codes "init") masks.init
  pub medi : IsFormMask layout (codes "medi") masks.medi
  pub fina : IsFormMask layout (codes "fina") masks.fina

abbrev pub no_forms : FormMasks
no_forms = record { isol = 0; init = 0; medi = 0; fina = 0 }

-- ---- forms

abbrev pub all_forms : FormMasks → ℕ
all_forms masks = bit_or (bit_or (bit_or masks.isol masks.init) masks.medi) masks.fina

-- a mask with this form, and with none of the others
abbrev pub in_form : FormMasks → ℕ → ℕ → ℕ
in_form masks form mask = bit_or (bit_and mask (2 ^ 32 - 1 - all_forms masks)) form

abbrev pub formed : FormMasks → ℕ → hb_glyph_info_t → hb_glyph_info_t
formed masks form g = record g { mask = in_form masks form g.mask }

-- clusters of each kind join, but for those of hieroglyphs (6) and what is no cluster (8 and above)
abbrev pub joins : ℕ → Bool
joins kind = nat_le kind 5 || (kind == 7)

-- a syllable that joins is the last of its word so far, or the first, which is alone
abbrev pub form_after : JoiningForm → JoiningForm
form_after Unformed = Alone
form_after _ = Last

abbrev pub next_form : ℕ → JoiningForm → JoiningForm
next_form kind last = if joins kind then form_after last else Unformed

abbrev pub own_mask : JoiningForm → FormMasks → ℕ
own_mask Last masks = masks.fina
own_mask _ masks = masks.isol

-- ---- breaks between syllables that join

-- the syllable from a place to another behind the one before it, if it joins; where none was before it begins a word
abbrev pub joined_at : List hb_glyph_info_t → ℕ → ℕ → Option Joined → Option Joined
joined_at l start end last =
    if joins (kind_at l start) then Some (record { start = start; end = end; is_first = is_none last }) else None

-- before a break a syllable is the last of its word, or alone where it was the first
abbrev pub form_before : FormMasks → Joined → ℕ
form_before masks last = if last.is_first then masks.isol else masks.fina

-- behind it one is the first of its word, or alone where none joins it
abbrev pub form_behind : FormMasks → List hb_glyph_info_t → Joined → ℕ
form_behind masks l own = if joins (kind_at l own.end) then masks.init else masks.isol

-- whether a lookup is for a glyph with only one of two masks: its own, and another
abbrev pub Test : Type 0
Test = hb_glyph_info_t → ℕ → Bool

-- it is so for one of some glyphs, by their own form and this one
abbrev pub is_one_parted : Test → FormMasks → ℕ → List hb_glyph_info_t → Bool
is_one_parted test masks form [] = false
is_one_parted test masks form (g ∷ gs) =
    if test g (in_form masks form g.mask) then true else is_one_parted test masks form gs

-- for one of two syllables between which there is a break
abbrev pub are_parted : Test → FormMasks → List hb_glyph_info_t → Joined → Joined → Bool
are_parted test masks l last own =
    is_one_parted test masks (form_before masks last) (items_between last.start last.end l)
    || is_one_parted test masks (form_behind masks l own) (items_between own.start own.end l)

-- both are unsafe to break then
abbrev pub flag_pair : Test → FormMasks → Joined → Joined → State → State
flag_pair test masks last own s =
    if (nat_le last.start own.end && nat_le own.end (len s)) && are_parted test masks s.input last own
    then unsafe_to_break (Some last.start) (Some own.end) s else s

abbrev pub flag_joined : Test → FormMasks → Option Joined → Option Joined → State → State
flag_joined test masks None own s = s
flag_joined test masks (Some last) None s = s
flag_joined test masks (Some last) (Some own) s = flag_pair test masks last own s

-- the syllables from a place on, at most `turns` of them, each with the one before it
abbrev pub flagged_from : Test → FormMasks → ℕ → ℕ → Option Joined → State → State
flagged_from test masks zero start last s = s
flagged_from test masks (suc turns) start last s =
    let own = joined_at s.input start (group_end share_syllable start s.input) last in
    if nat_lt start (length s.input)
    then flagged_from test masks turns (group_end share_syllable start s.input) own (flag_joined test masks last own s)
    else s

abbrev pub flagged : Test → FormMasks → State → State
flagged test masks s = flagged_from test masks (length s.input) 0 None s

-- ---- what features made

-- a feature that not every glyph has may have made one of a glyph with its mask alone
abbrev pub may_have_made : Option ℕ → hb_glyph_info_t → Bool
may_have_made None g = true
may_have_made (Some mask) g = not (bit_and g.mask mask == 0)
