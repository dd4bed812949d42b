-- Where a match of glyphs that follow one another ends, and the first ligature of a set whose components match.
use Rattle.std.specs.Prelude.{ℕ, zero, suc, ◌+◌, ◌-◌, ◌*◌, ◌==◌, ◌&&◌, ◌||◌, Bool, false, not, List, [], ◌∷◌, ◌++◌, length, drop, Option, Some, None, nat_lt, if◌then◌else◌}
use Rattle.std.specs.Prelude.{unwrap_or, option_map, option_and_then}
use Rattle.std.specs.Option.{option_or}
use Rattle.font_tables.specs.Bytes.{number_16, table_at_16}
use Rattle.rb_glyph.specs.declared.info.hb_glyph_info_t.{hb_glyph_info_t}
use Rattle.ot_layout.specs.LigatureParts.{ligature_id, ligature_component, may_join}
use Rattle.ot_contexts.specs.Rule.{matcher_by}
use Rattle.ot_lookups.specs.LookupProps.{glyph_at, passes_over}
use Rattle.ot_layout.specs.SkippingIterator.{next_found, place_of, previous_found}
use Rattle.ot_lookups.specs.declared.lookup_props.LookupProps.{LookupProps}
use Rattle.ot_contexts.specs.declared.rule.MatchFunction.TheVariants as rule
use Rattle.ot_layout.specs.declared.search.ApplyContext.{ApplyContext}
use Rattle.ot_layout.specs.declared.skipping_iterator.SkippingIterator.{SkippingIterator}
use Rattle.ot_layout.specs.declared.matcher.Matcher.{Matcher}
use Rattle.ot_layout.specs.ApplyContext.{context_iterator, input_iterator}

-- the place of the next glyph that counts after a place, where it is what is asked for
abbrev pub next_place : SkippingIterator → Option Matcher → List hb_glyph_info_t → ℕ → Option ℕ
next_place iterator None glyphs place = None
next_place iterator (Some matcher) glyphs place = place_of (next_found iterator matcher glyphs place)

-- the place of the last glyph that counts before a place, where it is what is asked for
abbrev pub previous_place : SkippingIterator → Option Matcher → List hb_glyph_info_t → ℕ → Option ℕ
previous_place iterator None glyphs place = None
previous_place iterator (Some matcher) glyphs place = place_of (previous_found iterator matcher glyphs place)

-- where so many steps lead from a place, each of them to the glyph that is asked for by its number
unfoldable pub steps_from : (Option Matcher → ℕ → Option ℕ) → (ℕ → Option Matcher) → ℕ → ℕ → Option ℕ
steps_from step asked place zero = Some place
steps_from step asked place (suc k) = option_and_then (step (asked k)) (steps_from step asked place k)

-- where so many glyphs end that stand after an input, which ends at a place: each is the next that counts, and is what is asked for
abbrev pub lookahead_end : ApplyContext → (ℕ → Option Matcher) → ℕ → ℕ → Option ℕ
lookahead_end ctx asked end count =
    option_map (λ place. place + 1)
    (steps_from (λ matcher place. next_place (context_iterator ctx (end == 1)) matcher ctx.input.now place) asked (end - 1) count)

-- where so many glyphs begin that stand before the cursor, the nearest first: each is the last that counts, and is what is asked for
abbrev pub backtrack_start : ApplyContext → (ℕ → Option Matcher) → ℕ → Option ℕ
backtrack_start ctx asked count =
    steps_from (λ matcher place. previous_place (context_iterator ctx ctx.is_level) matcher ctx.out.now place) asked
    (length ctx.out.now) count

-- whether the last glyph before a place that is no mark of the ligature of this number is that ligature, and is passed over
unfoldable pub is_hidden_before : LookupProps → ℕ → List hb_glyph_info_t → ℕ → Bool
is_hidden_before lookup_props id glyphs zero = false
is_hidden_before lookup_props id glyphs (suc i) =
    (ligature_id (glyph_at glyphs i) == id)
    && (if ligature_component (glyph_at glyphs i) == 0 then passes_over lookup_props (glyph_at glyphs i)
    else is_hidden_before lookup_props id glyphs i)

-- whether the first glyph is a mark of a ligature before it that is passed over: then any glyph may join it
unfoldable pub may_leave : ApplyContext → hb_glyph_info_t → Bool
may_leave ctx first =
    not (ligature_id first == 0) && not (ligature_component first == 0)
    && is_hidden_before ctx.iterator.lookup_props (ligature_id first) ctx.out.now (length ctx.out.now)

-- whether the glyph at a place may stand in one match with the first
abbrev pub joins : ApplyContext → ℕ → Bool
joins ctx place =
    may_join (glyph_at ctx.input.now 0) (glyph_at ctx.input.now place)
    || may_leave ctx (glyph_at ctx.input.now 0)

-- a place whose glyph may stand in one match with the first
abbrev pub joined : ApplyContext → Option ℕ → Option ℕ
joined ctx None = None
joined ctx (Some place) = if joins ctx place then Some place else None

-- the place of the last of so many glyphs after the first: each is the next that counts, is what is asked for, and may join
unfoldable pub last_place : ApplyContext → (ℕ → Option Matcher) → ℕ → Option ℕ
last_place ctx asked zero = Some 0
last_place ctx asked (suc k) =
    joined ctx (option_and_then (next_place (input_iterator ctx) (asked k) ctx.input.now) (last_place ctx asked k))

-- where a match of the first glyph and so many after it ends; it has 64 glyphs at most
abbrev pub match_end : ApplyContext → (ℕ → Option Matcher) → ℕ → Option ℕ
match_end ctx asked count =
    if nat_lt count 64 then option_map (λ place. place + 1) (last_place ctx asked count) else None

-- the places of the first glyph of a match and of so many after it
unfoldable pub match_places : ApplyContext → (ℕ → Option Matcher) → ℕ → List ℕ
match_places ctx asked zero = 0 ∷ []
match_places ctx asked (suc k) = match_places ctx asked k ++ unwrap_or (last_place ctx asked (suc k)) 0 ∷ []

-- a match of the first glyph and so many after it: where it ends, and the places of its glyphs
abbrev pub match_of : ApplyContext → (ℕ → Option Matcher) → ℕ → Option (ℕ × List ℕ)
match_of ctx asked count = option_map (λ end. (end, match_places ctx asked count)) (match_end ctx asked count)

-- the match of the components of a ligature, of which there are so many with the first
abbrev pub components_match : ApplyContext → List ℕ → Option ℕ → Option (ℕ × List ℕ)
components_match ctx table None = None
components_match ctx table (Some count) =
    if count == 0 then None else match_of ctx (matcher_by rule.Glyphs (drop 4 table)) (count - 1)

-- a ligature whose components stand at the cursor: its glyph, where they end, and their places
unfoldable pub ligature_of : ApplyContext → List ℕ → Option (ℕ × (ℕ × List ℕ))
ligature_of ctx table =
    option_and_then (λ glyph. option_map (λ found. (glyph, found)) (components_match ctx table (number_16 table 2)))
    (number_16 table 0)

-- the ligature of this number in a set, if its components stand at the cursor
unfoldable pub ligature_at : ApplyContext → List ℕ → ℕ → Option (ℕ × (ℕ × List ℕ))
ligature_at ctx set k = option_and_then (ligature_of ctx) (table_at_16 set (2 + 2 * k))

-- the first of so many ligatures of a set whose components stand at the cursor
unfoldable pub first_of : ApplyContext → List ℕ → ℕ → Option (ℕ × (ℕ × List ℕ))
first_of ctx set zero = None
first_of ctx set (suc k) = option_or (first_of ctx set k) (ligature_at ctx set k)

-- the first ligature of a set whose components stand at the cursor
abbrev pub first_ligature : ApplyContext → List ℕ → Option (ℕ × (ℕ × List ℕ))
first_ligature ctx set = first_of ctx set (unwrap_or (number_16 set 0) 0)
