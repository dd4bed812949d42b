-- The deleting walk by calls is the walk over the list.
use Rattle.std.proofs.Common.{◌≡◌, ℕ, zero, suc, ◌+◌, ◌≤◌, Bool, true, false, cond, ◌&&◌, ◌||◌, [], ◌++◌, length, take}
use Rattle.std.proofs.Common.{drop, leb, refl}
use Rattle.std.proofs.Common.{sym, ap, subst, ◌∙◌, arith, length-append, length-take, length-drop}
use Rattle.std.specs.Prelude.{bit_or}
use Rattle.std.specs.Int.Bits.{or_add_and}
use Rattle.std.proofs.lemmas.Bool.{cond-true, cond-false, le-leb}
use Rattle.std.proofs.lemmas.Nat.{and_or_self}
use Rattle.rb_glyph.specs.declared.info.hb_glyph_info_t.{hb_glyph_info_t}
use Rattle.rb_glyph.specs.declared.scratch.TheConstants.{HB_BUFFER_SCRATCH_FLAG_HAS_GLYPH_FLAGS}
use Rattle.glyph_lists.specs.Deletion.{OutAndRest}
use Rattle.glyph_lists.specs.DeletingWalk.{after_deletion, after_turn, after_walk, deletion_merges, walk_merges}
use Rattle.glyph_lists.proofs.LengthsLemmas.{length-deletion}
use Rattle.shaping_buffer.specs.State.{State}
use Rattle.shaping_buffer.specs.Step.{Outcome, settled, next_glyph, sync}
use Rattle.shaping_buffer.specs.ClusterStep.{any_order, flagged_if, head_of, delete_glyph}
use Rattle.shaping_buffer.specs.GroupStep.{call_of_walk, walk_by_calls}

-- an output is open, no refusal stands, and both sides fit together
abbrev pub IsUnderWay : State → Type 0
IsUnderWay s = (s.have_output ≡ true) × (s.successful ≡ true) × (length s.out + length s.input ≤ s.max_len)

abbrev sides_of : State → OutAndRest
sides_of s = record { out = s.out; rest = s.input }

-- the state after a done `next_glyph`
abbrev moved : State → State
moved s = settled (record s { out = s.out ++ take 1 s.input; input = drop 1 s.input; idx = s.idx + 1 })

state-next_glyph : (s : State) → IsUnderWay s → (next_glyph s).state ≡ moved s
state-next_glyph s h =
    let fits : length (s.out ++ take 1 s.input) ≤ s.max_len = simp (length-append, length-take) (omega (arith, h.2)) in
    ap (λ (o : Outcome). o.state) (cond-true s.have_output _ _ h.0)
    ∙ ap (λ (o : Outcome). o.state) (cond-true (leb (length (s.out ++ take 1 s.input)) s.max_len) _ _ (le-leb _ _ fits))
    ∙ ap (λ xs. settled (record s { out = s.out ++ take 1 s.input; input = xs; idx = s.idx + 1 }))
    (cond-true s.have_output (drop 1 s.input) s.input h.0)

-- ---- the scratch flag

bit_or-twice : (f m : ℕ) → bit_or (bit_or f m) m ≡ bit_or f m
bit_or-twice f m = omega (arith, or_add_and (bit_or f m) m, and_or_self m f)

abbrev raised : Bool → ℕ → ℕ
raised holds f = cond holds (bit_or f HB_BUFFER_SCRATCH_FLAG_HAS_GLYPH_FLAGS) f

and_none : (b : Bool) → (b && false) ≡ false
and_none false = refl
and_none true = refl

-- it is raised in a call, and in the calls after it
raised_twice : (level first later : Bool) (f : ℕ)
    → raised (level && later) (raised (level && first) f) ≡ raised (level && (first || later)) f
raised_twice false first later f = refl
raised_twice true false later f = refl
raised_twice true true false f = refl
raised_twice true true true f = bit_or-twice f HB_BUFFER_SCRATCH_FLAG_HAS_GLYPH_FLAGS

-- ---- the walk

module _ (test : hb_glyph_info_t → Bool) (level_is : Bool) where
  -- a walk by calls that has begun leads where the walk over both sides leads, nothing is refused, and the scratch flag
  -- is raised where that walk merges
  abbrev Agrees : ℕ → State → OutAndRest → Type 0
  Agrees calls s start = (sides_of (walk_by_calls test calls s) ≡ after_walk level_is test calls start)
      × IsUnderWay (walk_by_calls test calls s)
      × ((walk_by_calls test calls s).scratch_flags ≡ flagged_if (level_is && walk_merges level_is test calls start) s)

  -- the scratch flag after a call of the walk, and the calls after it
  flags_of_turn : (later : Bool) (s : State) → any_order s ≡ level_is → IsUnderWay s → (is : Bool)
      → test (head_of s) ≡ is
      → flagged_if (level_is && later) (call_of_walk test s)
      ≡ flagged_if (level_is && ((test (head_of s) && deletion_merges (sides_of s)) || later)) s
  flags_of_turn later s level h true e =
      let merges = deletion_merges (sides_of s) in
      ap (λ (t : State). flagged_if (level_is && later) t) (cond-true _ _ _ e)
      ∙ ap (λ (a : Bool). raised (level_is && later) (raised (a && merges) s.scratch_flags)) level
      ∙ raised_twice level_is merges later s.scratch_flags
      ∙ ap (λ (t : Bool). flagged_if (level_is && ((t && merges) || later)) s) (sym e)
  flags_of_turn later s level h false e =
      ap (λ (t : State). flagged_if (level_is && later) t) (cond-false _ _ _ e ∙ state-next_glyph s h)
      ∙ ap (λ (t : Bool). flagged_if (level_is && ((t && deletion_merges (sides_of s)) || later)) s) (sym e)

  one_more : (calls : ℕ) (s : State) → any_order s ≡ level_is → IsUnderWay s → (is : Bool) → test (head_of s) ≡ is
      → Agrees calls (call_of_walk test s) (after_turn level_is test (sides_of s)) → Agrees (suc calls) s (sides_of s)
  one_more calls s level h is e rest =
      let later = walk_merges level_is test calls (after_turn level_is test (sides_of s)) in
      (rest.0, rest.1, rest.2 ∙ flags_of_turn later s level h is e)

  one_turn : (calls : ℕ) (s : State) → any_order s ≡ level_is → IsUnderWay s
      → ((t : State) → any_order t ≡ level_is → IsUnderWay t → Agrees calls t (sides_of t))
      → (is : Bool) → test (head_of s) ≡ is → Agrees (suc calls) s (sides_of s)
  one_turn calls s level h later true e =
      let d = length-deletion (any_order s) s.out (head_of s) (drop 1 s.input) in
      let n = d.0 in
      let m = d.1 in
      let fits : length (delete_glyph s).out + length (delete_glyph s).input ≤ s.max_len =
      omega (arith, h.2, n, m, length-drop 1 s.input) in
      let made : sides_of (delete_glyph s) ≡ after_turn level_is test (sides_of s) =
      ap (λ a. after_deletion a (sides_of s)) level ∙ sym (cond-true _ _ _ e) in
      one_more calls s level h true e
      (subst (λ t. Agrees calls t (after_turn level_is test (sides_of s))) (sym (cond-true _ _ _ e))
      (subst (λ u. Agrees calls (delete_glyph s) u) made (later (delete_glyph s) level (h.0, h.1, fits))))
  one_turn calls s level h later false e =
      let fits : length (moved s).out + length (moved s).input ≤ s.max_len =
      simp (length-append, length-take, length-drop) (omega (arith, h.2)) in
      let made : sides_of (moved s) ≡ after_turn level_is test (sides_of s) = sym (cond-false _ _ _ e) in
      one_more calls s level h false e
      (subst (λ t. Agrees calls t (after_turn level_is test (sides_of s))) (sym (cond-false _ _ _ e
      ∙ state-next_glyph s h))
      (subst (λ u. Agrees calls (moved s) u) made (later (moved s) level (h.0, h.1, fits))))

  pub walks_agree : (calls : ℕ) (s : State) → any_order s ≡ level_is → IsUnderWay s → Agrees calls s (sides_of s)
  walks_agree zero s level h = (refl, h, ap (λ (b : Bool). flagged_if b s) (sym (and_none level_is)))
  walks_agree (suc calls) s level h = one_turn calls s level h (λ t. walks_agree calls t) (test (head_of s)) refl

-- the output of such a walk is closed
pub sync_is_done : (s : State) → IsUnderWay s
    → ((sync s).done ≡ true) × ((sync s).state.input ≡ s.out ++ s.input)
    × ((sync s).state.scratch_flags ≡ s.scratch_flags)
sync_is_done s h =
    let fits : length (s.out ++ s.input) ≤ s.max_len = simp length-append h.2 in
    let is : sync s ≡ record {
      done = true;
      state = record s {
        have_output = false;
        have_separate_output = false;
        out = [];
        input = s.out ++ s.input;
        idx = 0;
      };
    } =
    cond-true s.successful _ _ h.1 ∙ cond-true (leb (length (s.out ++ s.input)) s.max_len) _ _ (le-leb _ _ fits) in (
      ap (λ (o : Outcome). o.done) is,
      ap (λ (o : Outcome). o.state.input) is,
      ap (λ (o : Outcome). o.state.scratch_flags) is,
    )
