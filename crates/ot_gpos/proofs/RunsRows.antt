-- Worked rows: a lookup over a text of three glyphs, and the records of a rule.
use Rattle.std.proofs.Common.{◌≡◌, ℕ, true, List, [], ◌∷◌, None, Some, is_some, pos, refl, ap, arith}
use Rattle.std.specs.Prelude.{option_map, slice_get}
use Rattle.font_tables.specs.Bytes.{number_16}
use Rattle.rb_glyph.specs.declared.info.hb_glyph_info_t.{hb_glyph_info_t}
use Rattle.rb_glyph.specs.declared.position.GlyphPosition.{GlyphPosition}
use Rattle.shaping_buffer.specs.State.{State, empty_state}
use Rattle.ot_lookups.specs.Lookup.{is_for}
use Rattle.ot_lookups.specs.LookupProps.{zero_glyph}
use Rattle.ot_lookups.specs.Subtables.{subtables_of}
use Rattle.ot_lookups.specs.declared.lookup_list.Lookup.{Lookup}
use Rattle.ot_lookups.specs.declared.subtable.Subtable.{Subtable}
use Rattle.ot_gpos.specs.Attachments.{nothing_sought}
use Rattle.ot_gpos.specs.Contexts.{Applies, AreDone, named, record_done, target}
use Rattle.ot_gpos.specs.Lookups.{Applied, Outcome, Text, outcome, text_of}
use Rattle.ot_gpos.specs.Nested.{AreTried, IsOneTried, IsTried, nested}
use Rattle.ot_gpos.specs.Runs.{IsPositionedBy, run}
use Rattle.ot_gpos.proofs.ContextLemmas.{done_next, done_none, record_some}
use Rattle.ot_gpos.proofs.NestedLemmas.{tried_at, tried_first, tried_none, tried_others}
use Rattle.ot_gpos.proofs.RunsLemmas.{done_first, done_more, done_of, nothing_before}

abbrev letter : ℕ → hb_glyph_info_t
letter glyph = record zero_glyph { glyph_id = glyph }

abbrev written : List GlyphPosition → State
written ps = record (empty_state 9 (pos 0)) { input = letter 1 ∷ letter 2 ∷ letter 3 ∷ []; positions = Some ps }

module _ (a : Applied) (left : ℕ) (first other : Subtable) (ps qs : List GlyphPosition)
    (takes : (g : hb_glyph_info_t) → is_for a.lookup a.options.mask g ≡ true)
    (both : first ∷ other ∷ [] ≡ subtables_of a.list.subtables.items a.lookup) where
  abbrev with_positions : List GlyphPosition → Text
  with_positions rs = text_of (written rs) nothing_sought left

  abbrev Tries : ℕ → ℕ → Subtable → Text → Outcome → Type 0
  Tries place glyph t old o = IsOneTried (nested 64 a) a place glyph t old o

  second_tried : (place glyph : ℕ) (old : Text) (o : Outcome) → Tries place glyph first old (outcome old None)
      → Tries place glyph other old o → is_some o.next ≡ true → AreTried (nested 64 a) a place glyph (first ∷ other ∷ []) old o
  second_tried place glyph old o none is some =
      tried_others (nested 64 a) a place glyph first (other ∷ []) old (outcome old None) o none refl
      (tried_first (nested 64 a) a place glyph other [] old o is some)

  neither_tried : (place glyph : ℕ) (old : Text) → Tries place glyph first old (outcome old None)
      → Tries place glyph other old (outcome old None)
      → AreTried (nested 64 a) a place glyph (first ∷ other ∷ []) old (outcome old None)
  neither_tried place glyph old none neither =
      tried_others (nested 64 a) a place glyph first (other ∷ []) old (outcome old None) (outcome old None) none refl
      (tried_others (nested 64 a) a place glyph other [] old (outcome old None) (outcome old None) neither refl
      (tried_none (nested 64 a) a place glyph old))

  -- The first subtable does nothing. The other one moves both glyphs of a pair, so that the lookup goes on behind them, at the third
  -- glyph, where neither does anything.
  pair_done : Tries 0 1 first (with_positions ps) (outcome (with_positions ps) None)
      → Tries 0 1 other (with_positions ps) (outcome (with_positions qs) (Some 2))
      → Tries 2 3 first (with_positions qs) (outcome (with_positions qs) None)
      → Tries 2 3 other (with_positions qs) (outcome (with_positions qs) None)
      → IsPositionedBy a left (written ps) left (written qs)
  pair_done one two three four =
      let old = with_positions ps in
      let new = with_positions qs in
      let pair : IsTried 64 a 0 old (outcome new (Some 2)) =
      tried_at (nested 64 a) a 0 (written ps).input (first ∷ other ∷ []) old (outcome new (Some 2)) refl both (omega arith)
      (second_tried 0 1 old (outcome new (Some 2)) one two refl) in
      let last : IsTried 64 a 2 new (outcome new None) =
      tried_at (nested 64 a) a 2 (written qs).input (first ∷ other ∷ []) new (outcome new None) refl both (omega arith)
      (neither_tried 2 3 new three four) in
      record {
        last = nothing_sought;
        next = 3;
        done = done_more a old 2 (run new 2) (run new 3)
            (done_more a old 1 (run new 2) (run new 2)
            (done_more a old 0 (run old 0) (run new 2) (done_first a old)
            (done_of a old 0 0 2 old (outcome new (Some 2)) (omega arith) (takes (letter 1)) pair refl))
            (nothing_before a old 1 2 new (omega arith)))
            (done_of a old 2 2 3 new (outcome new None) (omega arith) (takes (letter 3)) last refl);
      }

-- A rule of two glyphs, at the places 4 and 6, has two records: the sixth lookup at the second glyph, and then the seventh at the first.
module _ (applies : Applies) (lookups : List Lookup) (sixth seventh : Lookup) (old mid new : Text) where
  abbrev records : List ℕ
  records = 0 ∷ 1 ∷ 0 ∷ 5 ∷ 0 ∷ 0 ∷ 0 ∷ 6 ∷ []

  abbrev places : List ℕ
  places = 0 ∷ 2 ∷ []

  records_done : slice_get lookups 5 ≡ Some sixth → slice_get lookups 6 ≡ Some seventh → applies sixth 6 old mid
      → applies seventh 4 mid new → AreDone (record_done applies lookups records 4 places) 2 old new
  unfolding number_16
  records_done one two before last =
      let does = record_done applies lookups records 4 places in
      done_next does 1 old mid new
      (done_next does 0 old old mid (done_none does old)
      (record_some applies (named lookups records 4 places 0) sixth 6 old mid
      (ap (option_map (λ (l : Lookup). target l 6)) one) before))
      (record_some applies (named lookups records 4 places 1) seventh 4 mid new
      (ap (option_map (λ (l : Lookup). target l 4)) two) last)
