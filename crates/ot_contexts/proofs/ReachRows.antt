-- Worked rows: how far a glyph 5 is looked for among letters 1 and 3, where marks are passed over, as by HarfBuzz's iterator.
use Rattle.std.proofs.Common.{◌≡◌, ℕ, false, [], ◌∷◌, Some, refl}
use Rattle.font_tables.specs.declared.coverage.Coverage.{Coverage}
use Rattle.rb_glyph.specs.declared.info.hb_glyph_info_t.{hb_glyph_info_t}
use Rattle.ot_lookups.specs.LookupProps.{passes_over, passes_over_mark, zero_glyph}
use Rattle.ot_layout.specs.SkippingIterator.{is_within, matches, may_ignore, next_found, passes, previous_found}
use Rattle.ot_layout.specs.declared.matcher.Matcher.TheVariants.{Glyph}
use Rattle.ot_layout.specs.declared.skipping_iterator.SkippingIterator.{SkippingIterator}
use Rattle.ot_contexts.specs.Reach.{next_end, previous_start}

abbrev letter : ℕ → hb_glyph_info_t
letter glyph = record zero_glyph { glyph_id = glyph; mask = 1; var1 = 2 }

abbrev mark : hb_glyph_info_t
mark = record zero_glyph { glyph_id = 2; mask = 1; var1 = 8 }

module _ (marks : Coverage) where
  abbrev past_marks : SkippingIterator
  past_marks = record {
    lookup_props = record { flags = 8; marks = marks };
    mask = 1;
    ignores_zwnj = false;
    ignores_zwj = false;
    ignores_hidden = false;
    syllable = 0;
  }

  -- behind the letter that is another one
  another : next_end past_marks (Some (Glyph 5)) (letter 1 ∷ mark ∷ letter 3 ∷ letter 1 ∷ []) 0 ≡ 3
  unfolding next_found passes matches is_within may_ignore passes_over passes_over_mark
  another = refl

  -- behind the mark that is passed over at the end
  none : next_end past_marks (Some (Glyph 5)) (letter 1 ∷ letter 3 ∷ mark ∷ []) 1 ≡ 3
  unfolding next_found passes matches is_within may_ignore passes_over passes_over_mark
  none = refl

  -- and back from the end, to the letter before the one that is another
  another_before : previous_start past_marks (Some (Glyph 5)) (letter 1 ∷ letter 1 ∷ letter 3 ∷ mark ∷ []) 4 ≡ 1
  unfolding previous_found passes matches is_within may_ignore passes_over passes_over_mark
  another_before = refl
