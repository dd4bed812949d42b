-- How far a rule looks at the glyphs around the cursor where it does not fit: with other glyphs there it might.
use Rattle.std.specs.Prelude.{ℕ, zero, suc, ◌==◌, ◌+◌, ◌-◌, List, length, min, max, Option, None, Some, is_some, nat_lt, option_map, unwrap_or, if◌then◌else◌}
use Rattle.rb_glyph.specs.declared.info.hb_glyph_info_t.{hb_glyph_info_t}
use Rattle.ot_layout.specs.ApplyContext.{context_iterator, input_iterator}
use Rattle.ot_layout.specs.SkippingIterator.{next_found, previous_found}
use Rattle.ot_layout.specs.declared.matcher.Matcher.{Matcher}
use Rattle.ot_layout.specs.declared.search.ApplyContext.{ApplyContext}
use Rattle.ot_layout.specs.declared.search.Reach.{Reach}
use Rattle.ot_layout.specs.declared.skipping_iterator.Found.{Found}
use Rattle.ot_layout.specs.declared.skipping_iterator.Found.TheVariants.{At, Other, End}
use Rattle.ot_layout.specs.declared.skipping_iterator.SkippingIterator.{SkippingIterator}
use Rattle.ot_contexts.specs.Match.{backtrack_start, last_place, lookahead_end, match_end, next_place, previous_place, steps_from}
use Rattle.ot_contexts.specs.Pattern.{Pattern}

-- how far an iterator looks for the next glyph (HarfBuzz, `unsafe_to` of `skipping_iterator_t`): behind the glyph at which it stays, or
-- behind the last one
abbrev pub unsafe_to : List hb_glyph_info_t → Found → ℕ
unsafe_to gs (At place) = place + 1
unsafe_to gs (Other place) = place + 1
unsafe_to gs End = length gs

-- how far it looks for the last glyph before a place (`unsafe_from`): to the glyph that is what is asked for, to the one before another
-- glyph at which it stays, or to the first one
abbrev pub unsafe_from : Found → ℕ
unsafe_from (At place) = place
unsafe_from (Other place) = place - 1
unsafe_from End = 0

-- what was looked at, and this range besides, if there is one
abbrev pub extended : Reach → Option Reach → Reach
extended reach None = reach
extended reach (Some range) = record { from = min reach.from range.from; to = max reach.to range.to }

-- how far the next glyph after a place is looked for; where a table is cut short, nothing is
abbrev pub next_end : SkippingIterator → Option Matcher → List hb_glyph_info_t → ℕ → ℕ
next_end iterator None glyphs place = 0
next_end iterator (Some matcher) glyphs place = unsafe_to glyphs (next_found iterator matcher glyphs place)

-- how far the last glyph before a place is looked for
abbrev pub previous_start : SkippingIterator → Option Matcher → List hb_glyph_info_t → ℕ → ℕ
previous_start iterator None glyphs place = place
previous_start iterator (Some matcher) glyphs place = unsafe_from (previous_found iterator matcher glyphs place)

-- how far so many steps look of which one leads nowhere: as far as that one does
unfoldable pub looked_from : (Option Matcher → ℕ → Option ℕ) → (Option Matcher → ℕ → ℕ) → (ℕ → Option Matcher) → ℕ → ℕ → ℕ
looked_from step looks asked place zero = place
looked_from step looks asked place (suc k) =
    unwrap_or (option_map (looks (asked k)) (steps_from step asked place k)) (looked_from step looks asked place k)

-- how far so many glyphs are looked for after an input, which ends at a place, if not all stand there (HarfBuzz, `end_index` of
-- `match_lookahead`)
abbrev pub end_index : ApplyContext → (ℕ → Option Matcher) → ℕ → ℕ → ℕ
end_index ctx asked end count =
    looked_from (λ matcher place. next_place (context_iterator ctx (end == 1)) matcher ctx.input.now place)
    (λ matcher place. next_end (context_iterator ctx (end == 1)) matcher ctx.input.now place) asked (end - 1) count

-- how far so many are looked for before the cursor, if not all stand there (`match_start` of `match_backtrack`)
abbrev pub match_start : ApplyContext → (ℕ → Option Matcher) → ℕ → ℕ
match_start ctx asked count =
    looked_from (λ matcher place. previous_place (context_iterator ctx ctx.is_level) matcher ctx.out.now place)
    (λ matcher place. previous_start (context_iterator ctx ctx.is_level) matcher ctx.out.now place) asked (length ctx.out.now)
    count

-- how far one more glyph of a match is looked for; nothing is told of one that stands there and may not join
abbrev pub joining_end : ApplyContext → Option Matcher → ℕ → ℕ
joining_end ctx matcher place =
    if is_some (next_place (input_iterator ctx) matcher ctx.input.now place) then 0
    else next_end (input_iterator ctx) matcher ctx.input.now place

-- how far so many glyphs of a match after the first are looked for, if not all stand there
unfoldable pub joined_end : ApplyContext → (ℕ → Option Matcher) → ℕ → ℕ
joined_end ctx asked zero = 0
joined_end ctx asked (suc k) =
    unwrap_or (option_map (joining_end ctx (asked k)) (last_place ctx asked k)) (joined_end ctx asked k)

-- the same of the input of a rule, which is not looked for if it has more than 64 glyphs (`end_position` of `match_input`)
abbrev pub end_position : ApplyContext → (ℕ → Option Matcher) → ℕ → ℕ
end_position ctx asked count = if nat_lt count 64 then joined_end ctx asked count else 0

-- the glyphs from the cursor on up to a place
abbrev pub range_to : ApplyContext → ℕ → Reach
range_to ctx to = record { from = length ctx.out.now; to = to }

-- by where the glyphs before the cursor begin, if they stand there
abbrev pub backtrack_range : ApplyContext → Pattern → ℕ → Option ℕ → Option Reach
backtrack_range ctx p to None = Some (record { from = match_start ctx p.backtrack p.backtrack_count; to = to })
backtrack_range ctx p to (Some from) = None

-- by where those after the input end
abbrev pub lookahead_range : ApplyContext → Pattern → ℕ → Option ℕ → Option Reach
lookahead_range ctx p end None = Some (range_to ctx (end_index ctx p.lookahead end p.lookahead_count))
lookahead_range ctx p end (Some to) = backtrack_range ctx p to (backtrack_start ctx p.backtrack p.backtrack_count)

-- by where the input ends
abbrev pub input_range : ApplyContext → Pattern → Option ℕ → Option Reach
input_range ctx p None = Some (range_to ctx (end_position ctx p.input p.input_count))
input_range ctx p (Some end) = lookahead_range ctx p end (lookahead_end ctx p.lookahead end p.lookahead_count)

-- the glyphs that a rule looks at which does not fit; none of one that fits. HarfBuzz marks them as unsafe to concatenate
-- (`context_apply_lookup`, `chain_context_apply_lookup`), but for those of a chained rule whose input does not stand there.
unfoldable pub missed_range : ApplyContext → Pattern → Option Reach
missed_range ctx p = input_range ctx p (match_end ctx p.input p.input_count)
