-- The scripts that the Indic shaper serves, and what differs from one to the other (HarfBuzz, `indic_configs`).
use Rattle.std.specs.Prelude.{ℕ, ◌==◌, ◌&&◌, Bool, true, false, not, List, [], ◌∷◌, Option, Some, None, codes, slice_index}
use Rattle.std.specs.Prelude.{if◌then◌else◌}
use Rattle.std.specs.Int.{to_be_bytes, w32}
use Rattle.rb_common.specs.Tag.{tag_of}
use Rattle.script_indic.specs.declared.configuration.IndicConfiguration.{IndicConfiguration}
use Rattle.script_indic.specs.declared.configuration.RephMode.TheVariants as mode
use Rattle.script_indic.specs.declared.configuration.RephPosition.{RephPosition}
use Rattle.script_indic.specs.declared.configuration.RephPosition.TheVariants as reph
use Rattle.script_indic.specs.declared.plan.ConsonantForms.{ConsonantForms}
use Rattle.script_indic.specs.declared.plan.IndicMasks.{IndicMasks}
use Rattle.script_indic.specs.declared.plan.IndicPlan.{IndicPlan}

-- the scripts that OpenType has the Indic shaper for, by their ISO 15924 tags
abbrev pub indic_scripts : List ℕ
indic_scripts =
    tag_of (codes "Beng") ∷ tag_of (codes "Deva") ∷ tag_of (codes "Gujr") ∷ tag_of (codes "Guru") ∷ tag_of (codes "Knda") ∷ tag_of (codes "Mlym") ∷
    tag_of (codes "Orya") ∷ tag_of (codes "Taml") ∷ tag_of (codes "Telu") ∷ []

-- ---- configurations

-- of a script that has an OpenType tag of the old specification, and of which RA and a halant make a reph
abbrev pub implicit : ℕ → RephPosition → IndicConfiguration
implicit virama position = record {
  has_old_spec = true;
  virama = Some virama;
  reph_position = position;
  reph_mode = mode.Implicit;
  has_below_forms_before_base = true;
}

-- of any other
abbrev pub default_configuration : IndicConfiguration
default_configuration = record (implicit 0 reph.BeforePost) { has_old_spec = false; virama = None }

abbrev pub configuration_of : ℕ → IndicConfiguration
configuration_of script =
    if script == tag_of (codes "Deva") then implicit 0x94D reph.BeforePost
    else if script == tag_of (codes "Beng") then implicit 0x9CD reph.AfterSub
    else if script == tag_of (codes "Guru") then implicit 0xA4D reph.BeforeSub
    else if script == tag_of (codes "Gujr") then implicit 0xACD reph.BeforePost
    else if script == tag_of (codes "Orya") then implicit 0xB4D reph.AfterMain
    else if script == tag_of (codes "Taml") then implicit 0xBCD reph.AfterPost
    else if script == tag_of (codes "Telu") then
    record (implicit 0xC4D reph.AfterPost) { reph_mode = mode.Explicit; has_below_forms_before_base = false }
    else if script == tag_of (codes "Knda") then
    record (implicit 0xCCD reph.AfterPost) { has_below_forms_before_base = false }
    else if script == tag_of (codes "Mlym") then
    record (implicit 0xD4D reph.AfterMain) { reph_mode = mode.Encoded }
    else default_configuration

abbrev pub configuration : Option ℕ → IndicConfiguration
configuration None = default_configuration
configuration (Some script) = configuration_of script

-- ---- plans

-- A font has the script by a tag. It was made by the new specification where that ends in 2.
abbrev pub is_old_spec : Option ℕ → ℕ → Bool
is_old_spec script tag = (configuration script).has_old_spec && not (slice_index (to_be_bytes w32 tag) 3 == 0x32)

abbrev pub indic_plan : Option ℕ → ℕ → IndicMasks → ConsonantForms → IndicPlan
indic_plan script tag masks forms = record {
  script = script;
  configuration = configuration script;
  is_old_spec = is_old_spec script tag;
  masks = masks;
  forms = forms;
}

-- a text is of a script
abbrev pub is_text_of : ℕ → Option ℕ → Bool
is_text_of tag None = false
is_text_of tag (Some script) = script == tag

-- rules with context are not asked for forms where the font is of the new specification, but for Malayalam
abbrev pub wants_no_context : IndicPlan → Bool
wants_no_context plan = not plan.is_old_spec && not (is_text_of (tag_of (codes "Mlym")) plan.script)
