-- What each step keeps of both sides, every list of calls keeps.
use Rattle.std.proofs.Common.{◌≡◌, ℕ, ◌≤◌, inl, inr, Bool, true, false, not, ◌&&◌, cond, List, [], ◌∷◌}
use Rattle.std.proofs.Common.{length, take, refl, sym, ap, ◌∙◌, subst, arith, ltb}
use Rattle.std.proofs.Common.{leb}
use Rattle.std.proofs.lemmas.Bool.{cond_both, cond-true, cond-false, cases_Bool, false≢true, and_parts}
use Rattle.std.proofs.lemmas.Bool.{ltb-false, leb-true}
use Rattle.std.specs.Prelude.{Some}
use Rattle.rb_glyph.specs.declared.info.hb_glyph_info_t.{hb_glyph_info_t}
use Rattle.glyph_lists.specs.GlyphFlags.{BreakImpliesConcat}
use Rattle.shaping_buffer.specs.State.{State, len, lookahead_len}
use Rattle.shaping_buffer.specs.ClusterLevel.{groups_graphemes}
use Rattle.shaping_buffer.specs.ClusterStep.{both, both_place, floor_of, any_order}
use Rattle.shaping_buffer.specs.ClusterStep.{asks}
use Rattle.shaping_buffer.specs.ClusterStep.{is_input_range, is_sides_range, range_start, range_end}
use Rattle.glyph_lists.specs.declared.glyph_flags.TheConstants.{BREAK_BITS}
use Rattle.rb_glyph.specs.declared.glyph_flag.TheConstants.{UNSAFE_TO_CONCAT, SAFE_TO_INSERT_TATWEEL}
use Rattle.rb_glyph.specs.declared.flag_sets.TheConstants.BufferFlags.{PRODUCE_UNSAFE_TO_CONCAT}
use Rattle.rb_glyph.specs.declared.flag_sets.TheConstants.BufferFlags.{PRODUCE_SAFE_TO_INSERT_TATWEEL}
use Rattle.glyph_laws.proofs.GlyphFlagsLemmas.{two_agrees, three_agrees, four_agrees}
use Rattle.shaping_buffer.proofs.Steps.{StepsKeep, range_end-some, front_left, glyph_left, next_keeps, skip_keeps}
use Rattle.shaping_buffer.proofs.Steps.{rename_keeps}
use Rattle.shaping_buffer.proofs.Steps.{output_keeps, copy_keeps, sync_keeps, replace_keeps, move_keeps, delete_keeps}
use Rattle.shaping_buffer.proofs.Steps.{merge_keeps, merge_out_keeps, plain_scan_keeps, scan_sides_keeps}
use Rattle.shaping_buffer.proofs.Steps.{flag_all_keeps}
use Rattle.shaping_runs.specs.declared.call.Call.{Call}
use Rattle.shaping_runs.specs.declared.call.Call.TheVariants.{ClearOutput, NextGlyph, NextGlyphs, SkipGlyph}
use Rattle.shaping_runs.specs.declared.call.Call.TheVariants.{ReplaceGlyph, ReplaceGlyphs, OutputGlyph, OutputInfo}
use Rattle.shaping_runs.specs.declared.call.Call.TheVariants.{CopyGlyph, MoveTo, Sync, DeleteGlyph, MergeClusters}
use Rattle.shaping_runs.specs.declared.call.Call.TheVariants.{MergeOutClusters, UnsafeToBreak}
use Rattle.shaping_runs.specs.declared.call.Call.TheVariants.{UnsafeToBreakFromOutbuffer, SafeToInsertTatweel}
use Rattle.shaping_runs.specs.declared.call.Call.TheVariants.{UnsafeToConcat, UnsafeToConcatFromOutbuffer}
use Rattle.shaping_runs.specs.declared.call.Call.TheVariants.{MergeGraphemeClusters}
use Rattle.shaping_runs.specs.Replay.{Turn, turn, after, may_be_made, outcome_of, has_glyph}
use Rattle.shaping_runs.specs.Exceptions.{is_merge_stopped_at_cursor, brings_glyph, NoGlyphIsBrought}

-- ---- conditions in words of numbers

pub input_order : (start end : ℕ) (s : State) → is_input_range start end s ≡ true → start ≤ end
input_order start end s e = leb-true start end (and_parts (leb start end) _ e).0

pub input_within : (start end : ℕ) (s : State) → is_input_range start end s ≡ true → end ≤ len s
input_within start end s e = leb-true end (len s) (and_parts (leb end (len s)) _ (and_parts (leb start end) _ e).1).0

cond-floor : (within have_output : Bool) (idx : ℕ) → within ≡ true → (within && (not have_output && ltb 0 idx)) ≡ false
    → cond have_output 0 idx ≡ 0
cond-floor true true idx e h = refl
cond-floor true false idx e h = omega (arith, ltb-false 0 idx h)
cond-floor false have_output idx e h = cc

-- the range of a call on both sides, by places in both, while an output is open and while none is
pub sides_order : (start end : ℕ) (s : State) → is_sides_range start end s ≡ true → start ≤ both_place s end
sides_order start end s e = elim (cases_Bool s.have_output) [
  | inl open_now ↦
      omega (
        arith,
        leb-true start (length s.out)
            (and_parts (leb start (length s.out)) _ (sym (cond-true s.have_output _ _ open_now) ∙ e)).0,
      )
  | inr closed_now ↦
      omega (
        arith,
        leb-true start end (sym (cond-false s.have_output _ _ closed_now) ∙ e),
        cond-false s.have_output s.idx 0 closed_now,
      )
]

-- ---- one call

module _ (P : List hb_glyph_info_t → Type 0) (Floor : ℕ → Type 0) (steps : StepsKeep P Floor) where
  -- the floor of a merge that is not stopped at the cursor is allowed
  floor_held : (within : Bool) (s : State) → within ≡ true
      → ((within && (not s.have_output && ltb 0 s.idx)) ≡ true → Floor (floor_of s)) → Floor (floor_of s)
  floor_held within s e held = elim (cases_Bool (within && (not s.have_output && ltb 0 s.idx))) [
    | inl on ↦ held on
    | inr off ↦ subst Floor (sym (cond-floor within s.have_output s.idx e off)) steps.keeping.lowest
  ]

  outcome_keeps : (call : Call) (s : State) → may_be_made call s ≡ true → brings_glyph call s ≡ false
      → (is_merge_stopped_at_cursor call s ≡ true → Floor (floor_of s)) → P (both s)
      → P (both (outcome_of call s).state)
  outcome_keeps ClearOutput s e own held h = steps.cleared s.out s.input h
  outcome_keeps NextGlyph s e own held h = next_keeps P Floor steps.keeping 1 s h
  outcome_keeps (NextGlyphs n) s e own held h = next_keeps P Floor steps.keeping n s h
  outcome_keeps SkipGlyph s e own held h = skip_keeps P Floor steps s h
  outcome_keeps (ReplaceGlyph id) s e own held h =
      rename_keeps P Floor steps.keeping id s (and_parts s.have_output (has_glyph s) e).0 h
  outcome_keeps (ReplaceGlyphs num_in num_out ids) s e own held h =
      let w = and_parts s.have_output _ e in
      let v = and_parts (has_glyph s) _ w.1 in
      let some = glyph_left s.have_output s.idx (length s.input) w.0 v.0 in
      let within = front_left s.have_output s.idx (length s.input) num_in w.0
      (leb-true num_in (lookahead_len s) (and_parts (leb num_in (lookahead_len s)) _ v.1).0) in
      replace_keeps P Floor steps num_in (take num_out ids.now) s w.0 some within h
  outcome_keeps (OutputGlyph id) s e own held h = output_keeps P Floor steps.keeping id s h
  outcome_keeps (OutputInfo g) s e own held h = absurd (false≢true (sym own ∙ e))
  outcome_keeps CopyGlyph s e own held h = copy_keeps P Floor steps.keeping s h
  outcome_keeps (MoveTo place) s e own held h = move_keeps P Floor steps.keeping place s h
  outcome_keeps Sync s e own held h = sync_keeps P Floor steps.keeping s h
  outcome_keeps DeleteGlyph s e own held h =
      let w = and_parts s.have_output (has_glyph s) e in
      delete_keeps P Floor steps (any_order s) s.out s.input (glyph_left s.have_output s.idx (length s.input) w.0 w.1) h
  outcome_keeps (MergeClusters start end) s e own held h =
      merge_keeps P Floor steps.keeping (any_order s) start end s (input_within start end s e)
      (floor_held (is_input_range start end s) s e held) h
  outcome_keeps (MergeOutClusters start end) s e own held h =
      let w = and_parts s.have_output _ e in
      merge_out_keeps P Floor steps.keeping start end s (leb-true end (length s.out) (and_parts (leb start end) _ w.1).1) h
  outcome_keeps (MergeGraphemeClusters start end) s e own held h =
      cond_both (groups_graphemes s.cluster_level) _ _ (λ (t : State). P (both t))
      (λ groups. merge_keeps P Floor steps.keeping false start end s (input_within start end s e)
      (floor_held (is_input_range start end s) s e
      (λ on. held (ap (λ b. b && (is_input_range start end s && (not s.have_output && ltb 0 s.idx))) groups ∙ on))) h)
      (λ _. plain_scan_keeps P Floor steps.keeping BREAK_BITS three_agrees s h start (range_end (Some end) s)
      (input_order start (range_end (Some end) s) s
      (subst (λ k. is_input_range start k s ≡ true) (sym (range_end-some end s (input_within start end s e))) e)))
  outcome_keeps (UnsafeToBreak start end) s e own held h =
      plain_scan_keeps P Floor steps.keeping BREAK_BITS three_agrees s h (range_start start) (range_end end s)
      (input_order (range_start start) (range_end end s) s e)
  outcome_keeps (UnsafeToBreakFromOutbuffer start end) s e own held h =
      scan_sides_keeps P Floor steps.keeping BREAK_BITS three_agrees s h (range_start start) (both_place s (range_end end s))
      (sides_order (range_start start) (range_end end s) s e)
  outcome_keeps (SafeToInsertTatweel start end) s e own held h =
      let wanted = asks PRODUCE_SAFE_TO_INSERT_TATWEEL s in
      plain_scan_keeps P Floor steps.keeping (cond wanted SAFE_TO_INSERT_TATWEEL BREAK_BITS)
      (cond_both wanted _ _ BreakImpliesConcat (λ _. four_agrees) (λ _. three_agrees)) s h (range_start start)
      (range_end end s)
      (input_order (range_start start) (range_end end s) s e)
  outcome_keeps (UnsafeToConcat start end) s e own held h =
      let up = input_order (range_start start) (range_end end s) s e in
      cond_both (asks PRODUCE_UNSAFE_TO_CONCAT s) _ _ (λ (t : State). P (both t))
      (λ _. flag_all_keeps P Floor steps.keeping UNSAFE_TO_CONCAT two_agrees s h (both_place s (range_start start))
      (both_place s (range_end end s)) (omega arith)) (λ _. h)
  outcome_keeps (UnsafeToConcatFromOutbuffer start end) s e own held h =
      cond_both (asks PRODUCE_UNSAFE_TO_CONCAT s) _ _ (λ (t : State). P (both t))
      (λ _. flag_all_keeps P Floor steps.keeping UNSAFE_TO_CONCAT two_agrees s h (range_start start) (both_place s (range_end end s))
      (sides_order (range_start start) (range_end end s) s e)) (λ _. h)

  -- in its condition or outside
  pub turn_keeps : (call : Call) (s : State) → brings_glyph call s ≡ false
      → (is_merge_stopped_at_cursor call s ≡ true → Floor (floor_of s)) → P (both s) → P (both (turn call s).state)
  turn_keeps call s own held h = cond_both (may_be_made call s) _ _ (λ (t : Turn). P (both t.state))
      (λ e. outcome_keeps call s e own held h) (λ _. h)

  -- every list of calls that brings no glyph, where every floor is allowed
  pub after_keeps : ((floor : ℕ) → Floor floor) → (calls : List Call) (s : State) → NoGlyphIsBrought calls s
      → P (both s) → P (both (after calls s))
  after_keeps all [] s none h = h
  after_keeps all (call ∷ calls) s none h =
      after_keeps all calls (turn call s).state none.1 (turn_keeps call s none.0 (λ _. all (floor_of s)) h)
