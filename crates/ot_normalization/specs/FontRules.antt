-- What normalization asks of a font and of the rules of a script.
use Rattle.std.specs.Prelude.{ℕ, Bool, false, ◌&&◌, ◌==◌, Option, Some, None, option_map, unwrap_or, if◌then◌else◌}
use Rattle.std.specs.Option.{option_or}
use Rattle.ucd_normal.specs.Decomposition.{canonical_mapping}
use Rattle.unicode_tables.specs.Mapping as mapping
use Rattle.script_shapers.specs.Shapers.{has_own_parts, own_parts, has_own_composite, own_composite, other_composite}
use Rattle.script_shapers.specs.declared.shaper.ScriptShaper.{ScriptShaper}
use Rattle.shaping_passes.specs.NormalizationParts.{is_character, hangul_parts, hangul_syllable}
use Rattle.shaping_passes.specs.NormalizationDecomposition.{Font}
use Rattle.shaping_passes.specs.NormalizationComposition.{Pairs}
use Rattle.script_items.specs.Marks.{is_mark}

-- two parts, with 0 where there is no second
abbrev pub with_zero : Option (ℕ × Option ℕ) → Option (ℕ × ℕ)
with_zero parts = option_map (λ p. (p.0, unwrap_or p.1 0)) parts

-- the parts of a character by a script's rules, by that of Hangul, or by Unicode's canonical mappings
unfoldable pub parts_of_char : ScriptShaper → ℕ → Option (ℕ × ℕ)
parts_of_char shaper c =
    if has_own_parts shaper c then with_zero (own_parts shaper c)
    else option_or (hangul_parts c) (with_zero (mapping.parts_of (canonical_mapping c)))

-- those of a code point, which has none where it is no character
abbrev pub parts_of : ScriptShaper → ℕ → Option (ℕ × ℕ)
parts_of shaper c = if is_character c then parts_of_char shaper c else None

-- how the characters of a text are taken apart with a font that has these characters
abbrev pub font_of : (ℕ → Bool) → ScriptShaper → Bool → Font
font_of has shaper fewest = record { has = has; parts = parts_of shaper; fewest = fewest }

-- ---- composition

-- what two characters compose to by a script's rules, by that of Hangul, or by Unicode's data
unfoldable pub composite_of : ScriptShaper → Bool → ℕ → ℕ → Option ℕ
composite_of shaper has_gpos_mark a b =
    if has_own_composite shaper a b then own_composite shaper a b
    else option_or (hangul_syllable a b) (other_composite shaper has_gpos_mark a b)

-- a character that the font has a glyph for
abbrev pub if_there : (ℕ → Bool) → Option ℕ → Option ℕ
if_there has None = None
if_there has (Some c) = if has c then Some c else None

-- what a starter and a mark compose to, if the font has it; what is no mark composes to nothing
abbrev pub pairs_of : (ℕ → Bool) → ScriptShaper → Bool → Pairs
pairs_of has shaper has_gpos_mark starter g =
    if is_mark g && (is_character starter.glyph_id && is_character g.glyph_id)
    then if_there has (composite_of shaper has_gpos_mark starter.glyph_id g.glyph_id)
    else None

-- ---- what is composed again

-- what two code points compose to, if both are characters and the font has it
abbrev pub composite_of_codes : (ℕ → Bool) → ScriptShaper → Bool → ℕ → ℕ → Option ℕ
composite_of_codes has shaper has_gpos_mark a b =
    if is_character a && is_character b then if_there has (composite_of shaper has_gpos_mark a b) else None

-- parts that compose to a character, with a font that has it and the second part
abbrev pub compose_to : (ℕ → Bool) → ScriptShaper → Bool → ℕ → Option (ℕ × ℕ) → Bool
compose_to has shaper has_gpos_mark c None = false
compose_to has shaper has_gpos_mark c (Some p) =
    has p.1 && (unwrap_or (composite_of_codes has shaper has_gpos_mark p.0 p.1) 0 == c)

-- the parts of the character compose to it again
abbrev pub is_composed_again : (ℕ → Bool) → ScriptShaper → Bool → ℕ → Bool
is_composed_again has shaper has_gpos_mark c = compose_to has shaper has_gpos_mark c (parts_of shaper c)
