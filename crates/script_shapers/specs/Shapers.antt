-- Which shaper the text of a script has, and what each shaper asks for.
use Rattle.std.specs.Prelude.{ℕ, Bool, true, false, Option, Some, None, ◌==◌, ◌&&◌, ◌||◌, ◌%◌, not, if◌then◌else◌, codes}
use Rattle.rb_common.specs.Tag.{tag_of}
use Rattle.rb_common.specs.Direction.{is_horizontal}
use Rattle.rb_common.specs.declared.direction.Direction.{Direction}
use Rattle.std.specs.Option.{option_or}
use Rattle.rb_glyph.specs.Tables.{composition_of}
use Rattle.ucd_normal.specs.Composition.{composite}
use Rattle.script_syllables.specs.Composition.{is_mark}
use Rattle.script_syllables.specs.Scripts.{is_listed}
use Rattle.script_indic.specs.Composition.{stays_whole, is_yya}
use Rattle.script_indic.specs.Scripts.{indic_scripts}
use Rattle.script_universal.specs.Composition.{is_two_part}
use Rattle.script_universal.specs.Scripts.{universal_scripts, joining_scripts}
use Rattle.script_letters.specs.Hebrew.{presentation_forms}
use Rattle.script_shapers.specs.declared.shaper.NormalizationMode.{NormalizationMode}
use Rattle.script_shapers.specs.declared.shaper.NormalizationMode.TheVariants as mode
use Rattle.script_shapers.specs.declared.shaper.ZeroWidthMarks.{ZeroWidthMarks}
use Rattle.script_shapers.specs.declared.shaper.ZeroWidthMarks.TheVariants as width
use Rattle.script_shapers.specs.declared.shaper.ScriptShaper.{ScriptShaper}
use Rattle.script_shapers.specs.declared.shaper.ScriptShaper.TheVariants.{Default, Arabic, Hebrew, Hangul, Thai, Indic, Khmer}
use Rattle.script_shapers.specs.declared.shaper.ScriptShaper.TheVariants.{Myanmar, Universal, UniversalJoining, Zawgyi, Plain}

-- whether a font has a script under the tag of all scripts, or of Latin: it was made for others
abbrev pub is_for_others : ℕ → Bool
is_for_others tag = (tag == tag_of (codes "DFLT")) || (tag == tag_of (codes "latn"))

-- the universal shaper, by the tag that the font has the script under
abbrev pub universal_of : ℕ → ℕ → ScriptShaper
universal_of script tag =
    if is_for_others tag then Default else if is_listed joining_scripts script then UniversalJoining else Universal

-- the shaper of an Indic script: a font whose tag ends with 3 is made for the universal one
abbrev pub indic_of : ℕ → ℕ → ScriptShaper
indic_of script tag =
    if not (is_for_others tag) && not (tag % 256 == 51) then Indic else universal_of script tag

-- the shaper of Myanmar: under its older tag a font has no forms of syllables
abbrev pub myanmar_of : ℕ → ScriptShaper
myanmar_of tag = if is_for_others tag || (tag == tag_of (codes "mymr")) then Default else Myanmar

-- whether the letters of a text join as those of Arabic do
abbrev pub is_arabic : ℕ → Direction → ℕ → Bool
is_arabic script direction tag =
    ((script == tag_of (codes "Arab")) || (script == tag_of (codes "Syrc")) && not (tag == tag_of (codes "DFLT")))
    && is_horizontal direction

-- the shaper of a script that is written in syllables, but the Indic ones
abbrev pub syllabic_shaper_of : ℕ → ℕ → ScriptShaper
syllabic_shaper_of script tag =
    if script == tag_of (codes "Khmr") then Khmer
    else if script == tag_of (codes "Mymr") then myanmar_of tag
    else if script == tag_of (codes "Qaag") then Zawgyi
    else if is_listed universal_scripts script then universal_of script tag
    else Default

-- the shaper of a script whose letters do not join as those of Arabic do
abbrev pub other_shaper_of : ℕ → ℕ → ScriptShaper
other_shaper_of script tag =
    if script == tag_of (codes "Hebr") then Hebrew
    else if script == tag_of (codes "Hang") then Hangul
    else if (script == tag_of (codes "Thai")) || (script == tag_of (codes "Laoo")) then Thai
    else if is_listed indic_scripts script then indic_of script tag
    else syllabic_shaper_of script tag

-- the shaper of a script in a direction, by the tag that the font has it under
abbrev pub shaper_of : ℕ → Direction → ℕ → ScriptShaper
shaper_of script direction tag =
    if is_arabic script direction tag then Arabic else other_shaper_of script tag

-- the shaper where Apple's table `morx` substitutes glyphs: it does what the shaper of the script would do
abbrev pub shaper_with_morx : ScriptShaper → ScriptShaper
shaper_with_morx Default = Default
shaper_with_morx _ = Plain

-- the script that the font's table `GPOS` has to have
abbrev pub wanted_script : ScriptShaper → Option ℕ
wanted_script Hebrew = Some (tag_of (codes "hebr"))
wanted_script _ = None

abbrev pub mode_of : ScriptShaper → NormalizationMode
mode_of Default = mode.Auto
mode_of Arabic = mode.Auto
mode_of Hebrew = mode.Auto
mode_of Hangul = mode.Nothing
mode_of Thai = mode.Auto
mode_of Indic = mode.Decomposed
mode_of Khmer = mode.Decomposed
mode_of Myanmar = mode.Decomposed
mode_of Universal = mode.Decomposed
mode_of UniversalJoining = mode.Decomposed
mode_of Zawgyi = mode.Nothing
mode_of Plain = mode.Auto

abbrev pub width_of : ScriptShaper → ZeroWidthMarks
width_of Default = width.Late
width_of Arabic = width.Late
width_of Hebrew = width.Late
width_of Hangul = width.Never
width_of Thai = width.Late
width_of Indic = width.Never
width_of Khmer = width.Never
width_of Myanmar = width.Early
width_of Universal = width.Early
width_of UniversalJoining = width.Early
width_of Zawgyi = width.Never
width_of Plain = width.Never

abbrev pub has_fallback : ScriptShaper → Bool
has_fallback Default = true
has_fallback Arabic = true
has_fallback Hebrew = true
has_fallback _ = false

-- whether two characters compose otherwise than by Unicode's canonical mappings
abbrev pub has_own_composite : ScriptShaper → ℕ → ℕ → Bool
has_own_composite Indic a b = is_yya a b || is_mark a
has_own_composite Khmer a b = is_mark a
has_own_composite Universal a b = is_mark a
has_own_composite UniversalJoining a b = is_mark a
has_own_composite _ a b = false

-- what they then compose to: the Bengali letters YA and nukta to YYA, and a mark with nothing
abbrev pub own_composite : ScriptShaper → ℕ → ℕ → Option ℕ
own_composite Indic a b = if is_yya a b then Some 0x9DF else None
own_composite _ a b = None

-- what two characters compose to that are no Hangul: in Hebrew, where a font does not place marks, a letter and its point
-- too
abbrev pub other_composite : ScriptShaper → Bool → ℕ → ℕ → Option ℕ
other_composite Hebrew has_gpos_mark a b =
    option_or (composite a b) (if has_gpos_mark then None else composition_of a b presentation_forms)
other_composite _ has_gpos_mark a b = composite a b

-- whether a character decomposes otherwise than by Unicode's canonical mappings
abbrev pub has_own_parts : ScriptShaper → ℕ → Bool
has_own_parts Indic c = stays_whole c
has_own_parts Khmer c = is_two_part c
has_own_parts _ c = false

-- the parts that it then has: a Khmer vowel sign keeps its number behind the sign E, and an Indic letter stays whole
abbrev pub own_parts : ScriptShaper → ℕ → Option (ℕ × Option ℕ)
own_parts Khmer c = Some (0x17C1, Some c)
own_parts _ c = None
