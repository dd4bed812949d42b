use Rattle.std.proofs.Common.{◌≡◌, ◌+◌, ◌<◌, length, All}
use Rattle.arrayvec.specs.ArrayVec.{array_vec_len}
use Rattle.std.specs.Prelude.{slice_index, Some, true}
use Rattle.ot_layout.specs.Budget.{IsNotMore}
use Rattle.ot_contexts.specs.Match.{last_place, match_places, may_leave}
use Rattle.ot_lookups.specs.LookupProps.{glyph_at}
use Rattle.ot_contexts.specs.Rule.{AreMatchPositions, sequence_matcher}
use Rattle.ot_contexts.proofs.matching.match_input.Given as goal
use Rattle.ot_layout.specs.ApplyContext.{input_iterator}

abbrev pub invariant-loop-index : goal.invariant-loop-index
invariant-loop-index l = record {
  within : l.place < length l.ctx.input.now;
  spent : IsNotMore l.fn.search.budget l.search.budget;
  reach : l.search.reach ≡ l.fn.search.reach;
  inside : All (λ place. place < length l.ctx.input.now) l.search.places.items;
  count : array_vec_len l.search.places ≡ l.index + 1;
  places : AreMatchPositions (input_iterator l.ctx) (sequence_matcher l.part) l.ctx.input.now l.index l.search.places.items;
  last : last_place l.ctx (sequence_matcher l.part) l.index ≡ Some l.place;
  all : l.search.places.items ≡ match_places l.ctx (sequence_matcher l.part) l.index;
  leaves : l.may_leave ≡ true → may_leave l.ctx (glyph_at l.ctx.input.now 0) ≡ true;
  first : slice_index l.search.places.items 0 ≡ 0;
  place : slice_index l.search.places.items l.index ≡ l.place;
}
