-- Worked rows, of the Unicode Character Database and its tests of normalization.
use Rattle.std.proofs.Common.{◌≡◌, ℕ, List, [], ◌∷◌, map, not, true, Option, Some, refl}
use Rattle.std.specs.Prelude.{◌==◌}
use Rattle.rb_glyph.specs.declared.info.hb_glyph_info_t.{hb_glyph_info_t}
use Rattle.glyph_lists.specs.Clusters.{zero_glyph}
use Rattle.shaping_passes.specs.NormalizationParts.{is_character, hangul_parts, hangul_syllable, parts_of, composed_of}
use Rattle.shaping_passes.specs.NormalizationParts.{class_of}
use Rattle.shaping_passes.specs.NormalizationDecomposition.{parts_with, decomposition_with, every_glyph}
use Rattle.shaping_passes.specs.NormalizationOrder.{class_at, placed, sorted, ordered_after, ordered}
use Rattle.shaping_passes.specs.NormalizationComposition.{pair_in, pair_of, composed_from, composed}

abbrev rows : List (ℕ × ℕ × Option ℕ)
rows = (0x1E63, 0x73, Some 0x323) ∷ (0x1E69, 0x1E63, Some 0x307) ∷ []

abbrev pairs : List ((ℕ × ℕ) × ℕ)
pairs = ((0x44, 0x307), 0x1E0A) ∷ ((0x73, 0x323), 0x1E63) ∷ ((0x1E63, 0x307), 0x1E69) ∷ []

abbrev classes : List (ℕ × ℕ)
classes = (0x301, 230) ∷ (0x307, 230) ∷ (0x323, 220) ∷ []

abbrev text : List ℕ → List hb_glyph_info_t
text ids = map (λ id. record zero_glyph { glyph_id = id }) ids

-- an s with a dot below and a dot above is taken apart in two steps
taken_apart : decomposition_with (every_glyph rows) 0x1E69 ≡ 0x73 ∷ 0x323 ∷ 0x307 ∷ []
unfolding decomposition_with parts_with parts_of is_character hangul_parts
taken_apart = refl

-- the last Hangul syllable
syllable_apart : decomposition_with (every_glyph rows) 0xD7A3 ≡ 0x1112 ∷ 0x1175 ∷ 0x11C2 ∷ []
unfolding decomposition_with parts_with parts_of is_character hangul_parts
syllable_apart = refl

-- a font that lacks the dot above keeps the letter whole, and one that lacks the s with a dot below takes that apart too
dot_is_missing : decomposition_with (record (every_glyph rows) { has = λ c. not (c == 0x307) }) 0x1E69 ≡ 0x1E69 ∷ []
unfolding decomposition_with parts_with parts_of is_character hangul_parts
dot_is_missing = refl

two_dots_are_there : decomposition_with (record (every_glyph rows) { has = λ c. not (c == 0x1E63) }) 0x1E69
    ≡ 0x73 ∷ 0x323 ∷ 0x307 ∷ []
unfolding decomposition_with parts_with parts_of is_character hangul_parts
two_dots_are_there = refl

-- where as little as can be is taken apart, a letter that the font has stays, and else one step is enough
stays_whole : decomposition_with (record (every_glyph rows) { fewest = true }) 0x1E69 ≡ 0x1E69 ∷ []
unfolding decomposition_with parts_with parts_of is_character hangul_parts
stays_whole = refl

one_step : decomposition_with (record (every_glyph rows) { fewest = true; has = λ c. not (c == 0x1E69) }) 0x1E69
    ≡ 0x1E63 ∷ 0x307 ∷ []
unfolding decomposition_with parts_with parts_of is_character hangul_parts
one_step = refl

-- the dot above goes behind the dot below, and no further than the next starter
dots_in_order : ordered (class_at classes) (text (0x73 ∷ 0x307 ∷ 0x323 ∷ 0x73 ∷ 0x323 ∷ []))
    ≡ text (0x73 ∷ 0x323 ∷ 0x307 ∷ 0x73 ∷ 0x323 ∷ [])
unfolding ordered_after sorted placed class_of is_character
dots_in_order = refl

-- marks of one class stay in their order
equals_stay : ordered (class_at classes) (text (0x44 ∷ 0x307 ∷ 0x301 ∷ [])) ≡ text (0x44 ∷ 0x307 ∷ 0x301 ∷ [])
unfolding ordered_after sorted placed class_of is_character
equals_stay = refl

-- both dots are composed, one after the other
dots_composed : composed (pair_in pairs) (class_at classes) (text (0x73 ∷ 0x323 ∷ 0x307 ∷ [])) ≡ text (0x1E69 ∷ [])
unfolding composed composed_from pair_of composed_of hangul_syllable class_of is_character
dots_composed = refl

-- a D with an acute accent and a dot above: the accent blocks the dot
blocked : composed (pair_in pairs) (class_at classes) (text (0x44 ∷ 0x301 ∷ 0x307 ∷ [])) ≡ text (0x44 ∷ 0x301 ∷ 0x307 ∷ [])
unfolding composed composed_from pair_of composed_of hangul_syllable class_of is_character
blocked = refl

-- the last Hangul syllable, back from its three parts
syllable_composed : composed (pair_in pairs) (class_at classes) (text (0x1112 ∷ 0x1175 ∷ 0x11C2 ∷ [])) ≡ text (0xD7A3 ∷ [])
unfolding composed composed_from pair_of composed_of hangul_syllable class_of is_character
syllable_composed = refl
