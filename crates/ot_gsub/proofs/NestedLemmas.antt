-- The records of a rule, one by one and in a row.
use Rattle.std.proofs.Common.{◌≡◌, ℕ, zero, suc, ◌+◌, ◌-◌, ◌<◌, ◌≤◌, Bool, true, false, List, [], ◌∷◌, length, Some, None, Result, Ok, Err, IfOk, refl, sym, ap, subst, ◌∙◌, arith}
use Rattle.std.proofs.lemmas.Bool.{cond-true, false≢true, lt-ltb}
use Rattle.std.proofs.lemmas.Option.{slice_get-get_or, slice_get_within}
use Rattle.std.specs.Prelude.{slice_get, slice_index, nat_lt, ◌&&◌, min}
use Rattle.std.specs.declared.alloc.AllocError.{AllocError}
use Rattle.ot_contexts.specs.Context.{record_at}
use Rattle.ot_contexts.specs.declared.context.Fit.{Fit}
use Rattle.ot_contexts.specs.declared.context.SequenceLookupRecord.{SequenceLookupRecord}
use Rattle.shaping_buffer.specs.State.{State, len, lookahead_len}
use Rattle.shaping_buffer.specs.Step.{Outcome, move_to}
use Rattle.ot_gsub.specs.Edits.{Gives, GivesOrWants}
use Rattle.ot_contexts.specs.MatchPositions.{Match, match_of}
use Rattle.ot_gsub.specs.Nested.{Applies, AreDone, IsBehind, IsFitDone, IsFollowed, IsRecordDone, IsRest, Now, both_len, is_there, now_of, records_from}
use Rattle.ot_contexts.specs.declared.match_positions.Matched.{Matched}
use Rattle.ot_gsub.specs.declared.nested.Step.{Step}
use Rattle.ot_gsub.specs.declared.nested.Turn.{Turn}
use Rattle.ot_gsub.specs.declared.nested.Turn.TheVariants.{On, Enough, Refused}
use Rattle.ot_gsub.specs.declared.substitution.Progress.{Progress}

-- ---- whether the glyph of a record is there

module _ (r : SequenceLookupRecord) (m : Match) (s : State) where
  abbrev k : ℕ
  k = r.sequence_index

  pub index_is : (place : ℕ) → slice_get m.places k ≡ Some place → place ≡ slice_index m.places k
  index_is place is =
      let some = slice_get-get_or m.places k 0 (slice_get_within m.places k place is) in
      cc

  pub there : (place before : ℕ) → slice_get m.places k ≡ Some place → before ≡ both_len s → place < before
      → is_there r m s ≡ true
  there place before is count less =
      let at = index_is place is in
      ap (λ b. b && nat_lt (slice_index m.places k) (both_len s)) (lt-ltb k (length m.places) (slice_get_within m.places k place is))
      ∙ lt-ltb (slice_index m.places k) (both_len s) (omega (arith, at, count, less))

-- ---- one record

-- the answer of a call
given : (o : Outcome) (told done : Bool) (new : State) → told ≡ done → (told ≡ o.done) × (new ≡ o.state) → Gives o done new
given o told done new is met = record { answer = sym is ∙ met.0; state = met.1 }

module _ (applies : Applies) (r : SequenceLookupRecord) (m : Match) (s : State) (p : Progress) where
  -- the glyph of the record stands at a place of both sides
  module _ (place before : ℕ) (is : slice_get m.places r.sequence_index ≡ Some place) (count : before ≡ both_len s)
      (less : place < before) where
    abbrev outcome : Outcome
    outcome = move_to (slice_index m.places r.sequence_index) s

    outcome_is : move_to place s ≡ outcome
    outcome_is = ap (λ i. move_to i s) (index_is r m s place is)

    yes : is_there r m s ≡ true
    yes = there r m s place before is count less

    -- and the cursor was to move there, of which this came, with as many lookups left as before
    module _ (told : Bool) (b : State) (left : ℕ) (met : (told ≡ (move_to place s).done) × (b ≡ (move_to place s).state))
        (same : left ≡ p.search.budget.nested) where
      abbrev at : Now
      at = record (now_of b p) { left = left }

      gives : (done : Bool) → told ≡ done → Gives outcome done b
      gives done is_done =
          subst (λ (o : Outcome). Gives o done b) outcome_is (given (move_to place s) told done b is_done met)

      -- the move is refused
      pub done_refused : told ≡ false → IsRecordDone applies r m (now_of s p) Refused m at
      done_refused halted =
          let g = gives false halted in
          record {
            passed = λ out. absurd (false≢true (sym out ∙ yes));
            there = λ _. record {
              refused = λ _. (refl, refl, ap (λ k. record (now_of b p) { left = k }) same ∙ ap (λ (t : State). now_of t p) g.state);
              moved = λ done. absurd (false≢true (g.answer ∙ done));
            };
          }

      -- the lookup is tried
      pub done_by : (tried step : Step) (mid : Now) (turn : Turn) (n : Match) (new : Now) → told ≡ true
          → applies r.lookup at tried mid → tried ≡ step → IsFollowed r.sequence_index before step m mid turn n new
          → IsRecordDone applies r m (now_of s p) turn n new
      done_by tried step mid turn n new moved applied was follows =
          let g = gives true moved in
          let there_at : at ≡ record (now_of s p) { buffer = outcome.state } =
          ap (λ k. record (now_of b p) { left = k }) same ∙ ap (λ (t : State). now_of t p) g.state in
          record {
            passed = λ out. absurd (false≢true (sym out ∙ yes));
            there = λ _. record {
              refused = λ out. absurd (false≢true (sym out ∙ sym g.answer));
              moved = λ _. record {
                step = step;
                mid = mid;
                applied = subst (λ (x : Step). applies r.lookup (record (now_of s p) { buffer = outcome.state }) x mid) was
                    (subst (λ (o : Now). applies r.lookup o tried mid) there_at applied);
                follows = subst (λ c. IsFollowed r.sequence_index c step m mid turn n new) count follows;
              };
            };
          }

-- ---- records in a row

module _ (applies : Applies) (table : List ℕ) where
  records_none : (k : ℕ) → records_from table k 0 ≡ []
  unfolding records_from
  records_none k = refl

  records_cut : (k n : ℕ) → record_at table k ≡ None → records_from table k n ≡ []
  unfolding records_from
  records_cut k zero cut = refl
  records_cut k (suc n) cut = rw cut refl

  records_next : (k n : ℕ) (r : SequenceLookupRecord) → 0 < n → record_at table k ≡ Some r
      → records_from table k n ≡ r ∷ records_from table (k + 1) (n - 1)
  unfolding records_from
  records_next k zero r some is = absurd (omega (arith, some))
  records_next k (suc n) r some is =
      let e : n ≡ suc n - 1 = omega arith in
      rw is (ap (λ i. r ∷ records_from table (k + 1) i) e)

  done_none : (m : Match) (old : Now) (done : Bool) (new : Now) → IsBehind m old done new → AreDone applies [] m old done new
  unfolding AreDone
  done_none m old done new is = is

  done_next : (r : SequenceLookupRecord) (rest : List SequenceLookupRecord) (m : Match) (old : Now) (turn : Turn) (n : Match)
      (mid : Now) (done : Bool) (new : Now) → IsRecordDone applies r m old turn n mid
      → IsRest (AreDone applies rest) turn n mid done new → AreDone applies (r ∷ rest) m old done new
  unfolding AreDone
  done_next r rest m old turn n mid done new first others =
      record { turn = turn; n = n; mid = mid; first = first; others = others }

  -- what is left of the records
  abbrev pub Left : ℕ → ℕ → Match → Now → Bool → Now → Type 0
  Left k count m old done new = AreDone applies (records_from table k (count - k)) m old done new

  pub left_none : (k count : ℕ) (m : Match) (old : Now) (done : Bool) (new : Now) → count ≤ k → IsBehind m old done new
      → Left k count m old done new
  left_none k count m old done new end behind =
      let e : 0 ≡ count - k = omega (arith, end) in
      subst (λ (l : List SequenceLookupRecord). AreDone applies l m old done new)
      (sym (ap (records_from table k) (sym e) ∙ records_none k)) (done_none m old done new behind)

  pub left_cut : (k count : ℕ) (m : Match) (old : Now) (done : Bool) (new : Now) → record_at table k ≡ None
      → IsBehind m old done new → Left k count m old done new
  left_cut k count m old done new cut behind =
      subst (λ (l : List SequenceLookupRecord). AreDone applies l m old done new) (sym (records_cut k (count - k) cut))
      (done_none m old done new behind)

  module _ (k count : ℕ) (r : SequenceLookupRecord) (m : Match) (old : Now) (n : Match) (mid : Now) (done : Bool) (new : Now)
      (less : k < count) (is : record_at table k ≡ Some r) where
    left_by : (turn : Turn) → IsRecordDone applies r m old turn n mid
        → IsRest (AreDone applies (records_from table (k + 1) (count - k - 1))) turn n mid done new → Left k count m old done new
    left_by turn first others =
        subst (λ (l : List SequenceLookupRecord). AreDone applies l m old done new)
        (sym (records_next k (count - k) r (omega (arith, less)) is))
        (done_next r (records_from table (k + 1) (count - k - 1)) m old turn n mid done new first others)

    module _ (turn : Turn) (first : IsRecordDone applies r m old turn n mid) where
      turned : (t : Turn) → turn ≡ t → IsRecordDone applies r m old t n mid
      turned t was = subst (λ (x : Turn). IsRecordDone applies r m old x n mid) was first

      pub left_next : turn ≡ On → Left (k + 1) count n mid done new → Left k count m old done new
      left_next was rest =
          let e : count - (k + 1) ≡ count - k - 1 = omega arith in
          left_by On (turned On was) (subst (λ i. AreDone applies (records_from table (k + 1) i) n mid done new) e rest)

      pub left_enough : turn ≡ Enough → IsBehind n mid done new → Left k count m old done new
      left_enough was behind = left_by Enough (turned Enough was) behind

      pub left_refused : turn ≡ Refused → done ≡ false → new ≡ mid → Left k count m old done new
      left_refused was halt at = left_by Refused (turned Refused was) (halt, at)

-- the cursor goes behind the match
pub fit_ended : (applies : Applies) (fit : Fit) (places : List ℕ) (s b : State) (p q : Progress) (m : Match) (result : Result Bool AllocError)
    (new : State) → ((done : Bool) (n : Now) → IsBehind m (now_of b q) done n → IsFitDone applies fit places (now_of s p) done n)
    → GivesOrWants (move_to (min m.end (both_len b)) b) result new
    → IfOk result (λ done. IsFitDone applies fit places (now_of s p) done (now_of new q))
fit_ended applies fit places s b p q m (Ok done) new on gives =
    on done (now_of new q) (gives.answer, ap (λ (t : State). now_of t q) gives.state)
fit_ended applies fit places s b p q m (Err e) new on gives = tt

-- where the cursor goes behind the match, all is done
abbrev pub Leads : Applies → Fit → List ℕ → State → Progress → State → Progress → Matched → Type 0
Leads applies fit places s p b q x =
    0 < q.search.budget.steps → (done : Bool) (new : Now) → IsBehind (match_of x) (now_of b q) done new
    → IsFitDone applies fit places (now_of s p) done new

-- what holds of a buffer, of progress and of a match holds of those that are the same
pub along : (P : State → Progress → Matched → Type 0) (b c : State) (p q : Progress) (m n : Matched) → c ≡ b → q ≡ p → n ≡ m
    → P b p m → P c q n
along P b c p q m n same_buffer same_progress same_match holds =
    subst (λ (x : State). P x q n) (sym same_buffer)
    (subst (λ (x : Progress). P b x n) (sym same_progress) (subst (λ (x : Matched). P b p x) (sym same_match) holds))

-- what is left is the input, where an output is open
pub lookahead_len-opened : (s : State) → s.have_output ≡ true → lookahead_len s ≡ length s.input
lookahead_len-opened s opened = let all : len s ≡ s.idx + length s.input = cond-true _ _ _ opened in omega (arith, all)

pub none_left : (n : ℕ) (b : Bool) → (0 < n → b ≡ true) → b ≡ false → n ≡ 0
none_left zero b more out = refl
none_left (suc n) b more out = absurd (false≢true (sym out ∙ more (omega arith)))
