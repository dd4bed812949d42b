-- Reverse chaining contextual single substitutions (OpenType specification, "Reverse Chaining Contextual Single Substitution Format 1:
-- coverage-based glyph contexts"; HarfBuzz, `ReverseChainSingleSubstFormat1`).
use Rattle.std.specs.Prelude.{ℕ, ◌+◌, ◌*◌, List, drop, Option, None, nat_lt, if◌then◌else◌, option_and_then, option_map, unwrap_or}
use Rattle.font_tables.specs.Bytes.{number_16}
use Rattle.font_tables.specs.declared.coverage.Coverage.{Coverage}
use Rattle.ot_contexts.specs.Match.{backtrack_start, lookahead_end}
use Rattle.ot_contexts.specs.Pattern.{covered_by}
use Rattle.ot_layout.specs.declared.search.ApplyContext.{ApplyContext}
use Rattle.ot_substitution.specs.declared.substitution.Edit.{Edit}
use Rattle.ot_substitution.specs.declared.substitution.Edit.TheVariants.{ReplaceInPlace}

-- how many glyphs the table asks for before the cursor, and how many after it
abbrev pub backtrack_glyph_count : List ℕ → ℕ
backtrack_glyph_count table = unwrap_or (number_16 table 4) 0

abbrev pub lookahead_glyph_count : List ℕ → ℕ
lookahead_glyph_count table = unwrap_or (number_16 table (6 + 2 * backtrack_glyph_count table)) 0

-- the substitute of a coverage index: behind the offsets of so many coverages stands how many substitutes there are, and then these
abbrev pub substitute : List ℕ → ℕ → ℕ → ℕ → Option ℕ
substitute table backtrack lookahead index =
    if nat_lt index (unwrap_or (number_16 table (8 + 2 * backtrack + 2 * lookahead)) 0)
    then number_16 table (8 + 2 * backtrack + 2 * lookahead + 2 + 2 * index) else None

-- where the glyphs before the cursor begin, the nearest first, if each is in the coverage of its number
abbrev pub reverse_start : List Coverage → List ℕ → ApplyContext → Option ℕ
reverse_start coverages table ctx = backtrack_start ctx (covered_by coverages) (backtrack_glyph_count table)

-- where the glyphs after it end, if each is in the coverage of its number, of those that come after the ones for the glyphs before it
abbrev pub reverse_end : List Coverage → List ℕ → ApplyContext → Option ℕ
reverse_end coverages table ctx =
    lookahead_end ctx (covered_by (drop (backtrack_glyph_count table) coverages)) 1 (lookahead_glyph_count table)

-- a glyph with this coverage index becomes its substitute in place, if the glyphs before it and after it are covered; the edit says where
-- those before it begin, and where those after it end
unfoldable pub reverse : List Coverage → List ℕ → ℕ → ApplyContext → Option Edit
reverse coverages table index ctx =
    option_and_then
    (λ glyph. option_and_then
    (λ from. option_map (λ to. ReplaceInPlace (record { glyph = glyph; from = from; to = to })) (reverse_end coverages table ctx))
    (reverse_start coverages table ctx))
    (substitute table (backtrack_glyph_count table) (lookahead_glyph_count table) index)
