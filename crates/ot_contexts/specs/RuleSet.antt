-- Which rule of a set is taken at the cursor: the first that fits.
use Rattle.std.specs.Prelude.{ℕ, zero, suc, ◌+◌, ◌-◌, ◌*◌, ◌==◌, ◌&&◌, ◌||◌, Bool, false, true, not, List, Option, None, Some, nat_lt, option_and_then, unwrap_or, if◌then◌else◌}
use Rattle.std.specs.Option.{option_or}
use Rattle.font_tables.specs.Bytes.{number_16, table_at_16}
use Rattle.rb_glyph.specs.declared.info.hb_glyph_info_t.{hb_glyph_info_t}
use Rattle.rb_glyph.specs.Fields.{field}
use Rattle.ot_contexts.specs.Pattern.{Pattern, fitting, rule_pattern}
use Rattle.ot_layout.specs.SkippingIterator.{fits, may_ignore, next_found}
use Rattle.ot_lookups.specs.LookupProps.{glyph_at, passes_over, props}
use Rattle.ot_contexts.specs.declared.neighbours.Next.{Next}
use Rattle.ot_contexts.specs.declared.rule.MatchFunctions.{MatchFunctions}
use Rattle.ot_layout.specs.declared.search.ApplyContext.{ApplyContext}
use Rattle.ot_layout.specs.declared.skipping_iterator.Found.{Found}
use Rattle.ot_layout.specs.declared.skipping_iterator.Found.TheVariants.{At, Other, End}
use Rattle.ot_layout.specs.declared.skipping_iterator.SkippingIterator.{SkippingIterator}
use Rattle.ot_layout.specs.declared.matcher.Matcher.{Matcher}
use Rattle.ot_layout.specs.declared.matcher.Matcher.TheVariants.{Any}
use Rattle.ot_layout.specs.ApplyContext.{input_iterator}

-- whether a walk stays at a glyph, whatever is asked for
abbrev pub counts : SkippingIterator → hb_glyph_info_t → Bool
counts iterator g = not (passes_over iterator.lookup_props g) && not (may_ignore iterator (field g.var2 0 16) (props g))

-- the glyph of an answer, if it counts whatever is asked for
abbrev pub counted : SkippingIterator → List hb_glyph_info_t → Found → Option Next
counted iterator glyphs (At place) =
    if counts iterator (glyph_at glyphs place) then Some (record { glyph = (glyph_at glyphs place).glyph_id; end = place + 1 }) else None
counted iterator glyphs (Other place) = None
counted iterator glyphs End = None

-- the next glyph after a place, if it counts whatever is asked for
abbrev pub next_counted : SkippingIterator → List hb_glyph_info_t → ℕ → Option Next
next_counted iterator glyphs place = counted iterator glyphs (next_found iterator Any glyphs place)

-- whether a glyph is what is asked for; where a table is cut short, none is
abbrev pub is_asked : Option Matcher → ℕ → Bool
is_asked None glyph = false
is_asked (Some matcher) glyph = fits matcher glyph

-- whether a glyph is what a rule asks for at this number after the cursor, of its input or after that, if it asks for so many
abbrev pub fits_at : Pattern → ℕ → ℕ → Bool
fits_at p number glyph =
    if nat_lt number p.input_count then is_asked (p.input number) glyph
    else not (nat_lt (number - p.input_count) p.lookahead_count) || is_asked (p.lookahead (number - p.input_count)) glyph

-- whether a rule asks for nothing after the cursor
abbrev pub asks_nothing : Pattern → Bool
asks_nothing p = (p.input_count == 0) && (p.lookahead_count == 0)

-- whether the second glyph after the cursor, if it counts, is what a rule asks for there
abbrev pub fits_second : Pattern → Option Next → Bool
fits_second p None = true
fits_second p (Some second) = fits_at p 1 second.glyph

-- the same of the first one, which is found here, and of the second
abbrev pub fits_found : SkippingIterator → List hb_glyph_info_t → Pattern → Found → Bool
fits_found iterator glyphs p (At place) =
    not (counts iterator (glyph_at glyphs place))
    || (fits_at p 0 (glyph_at glyphs place).glyph_id && fits_second p (next_counted iterator glyphs place))
fits_found iterator glyphs p (Other place) = asks_nothing p
fits_found iterator glyphs p End = asks_nothing p

-- whether the next two glyphs of the input are what a rule asks for after the cursor, as far as they count whatever is asked for
unfoldable pub fits_next : ApplyContext → Pattern → Bool
fits_next ctx p =
    fits_found (input_iterator ctx) ctx.input.now p (next_found (input_iterator ctx) Any ctx.input.now 0)

-- whether joiners are passed over both in the input and around it
abbrev pub passes_joiners : ApplyContext → Bool
passes_joiners ctx = ctx.context.ignores_zwnj && ctx.iterator.ignores_zwj

-- whether HarfBuzz looks at the next two glyphs of the input before it tries the rules of a set of so many: of more than four, and of
-- chained rules where joiners are passed over
abbrev pub looks_first : ApplyContext → Bool → ℕ → Bool
looks_first ctx is_chained count = nat_lt 4 count && (not is_chained || passes_joiners ctx)

-- whether a rule is tried: a chained rule, where HarfBuzz looks first, only if it asks for the next two glyphs of the input
abbrev pub is_tried : ApplyContext → Bool → ℕ → Pattern → Bool
is_tried ctx is_chained count p =
    if is_chained && looks_first ctx is_chained count then fits_next ctx p else true

-- a rule, if there is one, and it is tried and fits
abbrev pub taken : ApplyContext → Bool → ℕ → Option Pattern → Option Pattern
taken ctx is_chained count None = None
taken ctx is_chained count (Some p) = if is_tried ctx is_chained count p then fitting ctx (Some p) else None

-- how many rules a set has
abbrev pub rule_count : List ℕ → ℕ
rule_count set = unwrap_or (number_16 set 0) 0

-- the rule of this number in a set, if it is taken
abbrev pub rule_at : ApplyContext → Bool → MatchFunctions → List ℕ → ℕ → Option Pattern
rule_at ctx is_chained match_functions set k =
    taken ctx is_chained (rule_count set) (option_and_then (rule_pattern is_chained match_functions) (table_at_16 set (2 + 2 * k)))

-- the first of so many rules of a set that is taken
unfoldable pub first_rule : ApplyContext → Bool → MatchFunctions → List ℕ → ℕ → Option Pattern
first_rule ctx is_chained match_functions set zero = None
first_rule ctx is_chained match_functions set (suc k) =
    option_or (first_rule ctx is_chained match_functions set k) (rule_at ctx is_chained match_functions set k)

-- the first rule of a set, if there is one, that is taken
abbrev pub rule_of_set : ApplyContext → Bool → MatchFunctions → Option (List ℕ) → Option Pattern
rule_of_set ctx is_chained match_functions None = None
rule_of_set ctx is_chained match_functions (Some set) = first_rule ctx is_chained match_functions set (rule_count set)
