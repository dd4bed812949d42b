-- A lookup over a whole text, from what the functions that walk it answer.
use Rattle.std.proofs.Common.{◌≡◌, ◌⊎◌, ℕ, zero, suc, ◌+◌, ◌<◌, ◌≤◌, Bool, true, false, List, [], ◌∷◌, ◌++◌, length, drop, Result, Ok, Err, IfOk}
use Rattle.std.proofs.Common.{refl, sym, ap, subst, ◌∙◌, inl, inr, arith, length-drop}
use Rattle.std.proofs.lemmas.Bool.{cases_Bool, cond_both, eqb-true, false≢true}
use Rattle.std.proofs.lemmas.List.Folds.{list_any_at}
use Rattle.std.specs.List.{list_any}
use Rattle.std.specs.Prelude.{IsErr, nat_le, nat_lt, ◌-◌, ◌==◌, ◌||◌}
use Rattle.std.specs.declared.alloc.AllocError.{AllocError}
use Rattle.rb_glyph.specs.declared.info.hb_glyph_info_t.{hb_glyph_info_t}
use Rattle.glyph_lists.specs.Clusters.{zero_glyph}
use Rattle.ot_lookups.specs.Lookup.{is_for}
use Rattle.ot_lookups.specs.LookupProps.{glyph_at}
use Rattle.ot_lookups.specs.declared.lookup_list.Lookup.{Lookup}
use Rattle.shaping_buffer.specs.State.{State}
use Rattle.shaping_buffer.specs.Step.{Outcome, clear_output, next_glyph, unlimited}
use Rattle.ot_gsub.specs.Nested.{Now}
use Rattle.ot_gsub.specs.Runs.{AreDoneBackward, AreGlyphsDone, HasDone, IsForward, IsGlyphDone, IsPlaceDone, IsPutOut, IsRestDone, IsRunOf, IsStop, IsStopped, IsTried, IsUnderWay, IsWanting, opened}
use Rattle.ot_gsub.specs.Singles.{GoesOn, opened_at, starts_reverse}
use Rattle.ot_gsub.specs.Turn.{IsTurnAt, subtables}
use Rattle.ot_gsub.specs.declared.nested.Step.TheVariants.{Applied, Passed, Refused}
use Rattle.ot_gsub.specs.declared.substitution.Substitutions.{Substitutions}
use Rattle.ot_gsub.proofs.PutOutLemmas.{all_refused, first_fits, first_refused, glyph_at-drop, held, held_is, input-put, next_glyphs-opened, put, rest_is}

-- ---- glyphs in a row

module _ (substitutions : Substitutions) (lookup : Lookup) where
  abbrev is_taken : hb_glyph_info_t → Bool
  is_taken = is_for lookup substitutions.options.mask

  abbrev Done : ℕ → Now → Now → Type 0
  Done = AreGlyphsDone substitutions lookup

  abbrev Glyph : Now → Result Bool AllocError → Now → Type 0
  Glyph = IsGlyphDone substitutions lookup

  abbrev Stopped : Now → Result Bool AllocError → Type 0
  Stopped = IsStopped substitutions lookup

  done_none : (old : Now) → Done 0 old old
  unfolding AreGlyphsDone
  done_none old = refl

  done_first : (n : ℕ) (old mid new : Now) → Glyph old (Ok true) mid → Done n mid new → Done (suc n) old new
  unfolding AreGlyphsDone
  done_first n old mid new first rest = record { mid = mid; first = first; others = rest }

  done_one : (old new : Now) → Glyph old (Ok true) new → Done 1 old new
  unfolding AreGlyphsDone
  done_one old new first = record { mid = new; first = first; others = refl }

  pub done_then : (m n : ℕ) (old mid new : Now) → Done m old mid → Done n mid new → Done (m + n) old new
  unfolding AreGlyphsDone
  done_then zero n old mid new first rest =
      let e : n ≡ zero + n = omega arith in
      subst (λ k. Done k old new) e (subst (λ (o : Now). Done n o new) first rest)
  done_then (suc m) n old mid new first rest =
      let e : suc (m + n) ≡ suc m + n = omega arith in
      let all : Done (suc (m + n)) old new =
      record { mid = first.mid; first = first.first; others = done_then m n first.mid mid new first.others rest } in
      subst (λ k. Done k old new) e all

  pub stopped_then : (m : ℕ) (old mid : Now) (result : Result Bool AllocError) → Done m old mid → Stopped mid result
      → Stopped old result
  stopped_then m old mid result first s = record {
    turns = m + s.turns;
    mid = s.mid;
    after = s.after;
    glyphs = done_then m s.turns old mid s.mid first s.glyphs;
    last = s.last;
    stop = s.stop;
  }

  stopped_here : (old after : Now) (result : Result Bool AllocError) → Glyph old result after → IsStop result → Stopped old result
  stopped_here old after result last stop = record {
    turns = 0;
    mid = old;
    after = after;
    glyphs = done_none old;
    last = last;
    stop = stop;
  }

  -- ---- glyphs that the lookup is not for

  -- so many glyphs are done, or one of them was refused
  abbrev CameTo : ℕ → Now → Bool → Now → Type 0
  CameTo n old true new = Done n old new
  CameTo n old false new = Stopped old (Ok false)

  came_first : (n : ℕ) (old mid : Now) (done : Bool) (new : Now) → Glyph old (Ok true) mid → CameTo n mid done new
      → CameTo (suc n) old done new
  came_first n old mid true new first rest = done_first n old mid new first rest
  came_first n old mid false new first rest = stopped_then 1 old mid (Ok false) (done_one old mid first) rest

  came_same : (n : ℕ) (old at : Now) (d d2 : Bool) (st st2 : State) → d2 ≡ d → (d ≡ true → st2 ≡ st)
      → CameTo n old d (record at { buffer = st }) → CameTo n old d2 (record at { buffer = st2 })
  came_same n old at true d2 st st2 e same c =
      subst (λ z. CameTo n old z (record at { buffer = st2 })) (sym e)
      (subst (λ (t : State). Done n old (record at { buffer = t })) (sym (same refl)) c)
  came_same n old at false d2 st st2 e same c = subst (λ z. CameTo n old z (record at { buffer = st2 })) (sym e) c

  -- what comes of the first of them is known from the call that puts it out
  module _ (at : Now) (old : Now) (b : State) (p : Bool) (o : List hb_glyph_info_t) (x : hb_glyph_info_t)
      (xs : List hb_glyph_info_t) (i : ℕ)
      (by : (result : Result Bool AllocError) (new : Now)
      → IsPutOut (record at { buffer = held b p o (x ∷ xs) i }) result new → Glyph old result new) where
    abbrev h : State
    h = held b p o (x ∷ xs) i

    abbrev h1 : State
    h1 = held b (p || nat_lt (i + 1) (length (o ++ x ∷ []))) (o ++ x ∷ []) xs (i + 1)

    came_more : (n : ℕ) → n ≤ length xs
        → CameTo n (record at { buffer = h1 }) (put n h1).done (record at { buffer = (put n h1).state })
        → CameTo (suc n) old (put (suc n) h).done (record at { buffer = (put (suc n) h).state })
    came_more n within rest = elim (cases_Bool (nat_le (length (o ++ x ∷ [])) b.max_len)) [
      | inl holds ↦
          let first : next_glyph h ≡ unlimited h1 = first_fits b p o x xs i holds in
          let same = rest_is b p o x xs i n within holds in
          came_same (suc n) old at (put n h1).done (put (suc n) h).done (put n h1).state (put (suc n) h).state same.0 same.1
          (came_first n old (record at { buffer = h1 }) (put n h1).done (record at { buffer = (put n h1).state })
          (by (Ok true) (record at { buffer = h1 })
          (sym (ap (λ (r : Outcome). r.done) first), sym (ap (λ (r : Outcome). record at { buffer = r.state }) first))) rest)
      | inr fails ↦
          subst (λ z. CameTo (suc n) old z (record at { buffer = (put (suc n) h).state }))
          (sym (all_refused b p o x xs i n within fails))
          (stopped_here old (record at { buffer = (next_glyph h).state }) (Ok false)
          (by (Ok false) (record at { buffer = (next_glyph h).state }) (sym (first_refused b p o x xs i fails), refl)) refl)
    ]

  came_held : (n : ℕ) (at : Now) (b : State) (p : Bool) (o l : List hb_glyph_info_t) (i : ℕ) → n ≤ length l
      → ((k : ℕ) → k < n → is_taken (glyph_at l k) ≡ false)
      → CameTo n (record at { buffer = held b p o l i }) (put n (held b p o l i)).done
      (record at { buffer = (put n (held b p o l i)).state })
  came_held zero at b p o l i within none = done_none (record at { buffer = held b p o l i })
  came_held (suc n) at b p o [] i within none = absurd (omega (arith, within))
  came_held (suc n) at b p o (x ∷ xs) i within none =
      let old : Now = record at { buffer = held b p o (x ∷ xs) i } in
      let here : is_taken (glyph_at (x ∷ xs) 0) ≡ false = none 0 (omega arith) in
      came_more at old b p o x xs i
      (λ result new is. record {
        some = omega arith;
        others = λ _. is;
        taken = λ holds. absurd (false≢true (sym here ∙ holds));
      })
      n (omega (arith, within))
      (came_held n at b (p || nat_lt (i + 1) (length (o ++ x ∷ []))) (o ++ x ∷ []) xs (i + 1) (omega (arith, within))
      (λ k less. none (suc k) (omega (arith, less))))

  came : (n : ℕ) (old : Now) → old.buffer.have_output ≡ true → n ≤ length old.buffer.input
      → ((k : ℕ) → k < n → is_taken (glyph_at old.buffer.input k) ≡ false)
      → CameTo n old (put n old.buffer).done (record old { buffer = (put n old.buffer).state })
  came n old is within none =
      let s = old.buffer in
      subst (λ (t : State). CameTo n (record old { buffer = t }) (put n t).done (record old { buffer = (put n t).state }))
      (sym (held_is s is))
      (came_held n old s s.have_separate_output s.out s.input s.idx within none)

  -- the first one was tried, and nothing was done there
  came_tried_held : (n : ℕ) (at old : Now) (b : State) (p : Bool) (o l : List hb_glyph_info_t) (i : ℕ) → 0 < n → n ≤ length l
      → ((k : ℕ) → 1 ≤ k → k < n → is_taken (glyph_at l k) ≡ false)
      → ((result : Result Bool AllocError) (new : Now) → IsPutOut (record at { buffer = held b p o l i }) result new
      → Glyph old result new)
      → CameTo n old (put n (held b p o l i)).done (record at { buffer = (put n (held b p o l i)).state })
  came_tried_held zero at old b p o l i some within none by = absurd (omega (arith, some))
  came_tried_held (suc n) at old b p o [] i some within none by = absurd (omega (arith, within))
  came_tried_held (suc n) at old b p o (x ∷ xs) i some within none by =
      came_more at old b p o x xs i by n (omega (arith, within))
      (came_held n at b (p || nat_lt (i + 1) (length (o ++ x ∷ []))) (o ++ x ∷ []) xs (i + 1) (omega (arith, within))
      (λ k less. none (suc k) (omega arith) (omega (arith, less))))

  came_tried : (n : ℕ) (old mid : Now) → mid.buffer.have_output ≡ true → 0 < n → n ≤ length mid.buffer.input
      → ((k : ℕ) → 1 ≤ k → k < n → is_taken (glyph_at mid.buffer.input k) ≡ false)
      → ((result : Result Bool AllocError) (new : Now) → IsPutOut mid result new → Glyph old result new)
      → CameTo n old (put n mid.buffer).done (record mid { buffer = (put n mid.buffer).state })
  came_tried n old mid is some within none by =
      let s = mid.buffer in
      subst
      (λ (t : State). ((result : Result Bool AllocError) (new : Now) → IsPutOut (record mid { buffer = t }) result new
      → Glyph old result new) → CameTo n old (put n t).done (record mid { buffer = (put n t).state }))
      (sym (held_is s is))
      (came_tried_held n mid old s s.have_separate_output s.out s.input s.idx some within none) by

  -- ---- a turn, and what is passed over after it

  abbrev UnderWay : ℕ → Now → Result Bool AllocError → Now → Type 0
  UnderWay = IsUnderWay substitutions lookup

  -- the answer of what is passed over
  under_way : (least turns : ℕ) (old : Now) (done : Bool) (new : Now) → least ≤ turns → CameTo turns old done new
      → (done ≡ true → 0 < length new.buffer.input → is_taken (glyph_at new.buffer.input 0) ≡ true)
      → UnderWay least old (Ok done) new
  under_way least turns old true new up c next = record { turns = turns; from = up; glyphs = c; next = next refl }
  under_way least turns old false new up c next = c

  under_way_then : (m : ℕ) (old mid : Now) (done : Bool) (new : Now) → Done m old mid → UnderWay 0 mid (Ok done) new
      → UnderWay m old (Ok done) new
  under_way_then m old mid true new first rest = record {
    turns = m + rest.turns;
    from = omega arith;
    glyphs = done_then m rest.turns old mid new first rest.glyphs;
    next = rest.next;
  }
  under_way_then m old mid false new first rest = stopped_then m old mid (Ok false) first rest

  next_by : (start : ℕ) (s : State) (done : Bool) (new : State) (g : GoesOn lookup substitutions.options.mask start s done new)
      → s.have_output ≡ true → done ≡ true → 0 < length new.input → is_taken (glyph_at new.input 0) ≡ true
  next_by start s done new g is holds some =
      let left : new.input ≡ drop g.count s.input =
      ap (λ (t : State). t.input) g.gives.state ∙ input-put g.count s is (sym g.gives.answer ∙ holds) in
      let long : length new.input ≡ length s.input - g.count = ap length left ∙ length-drop g.count s.input in
      ap (λ (l : List hb_glyph_info_t). is_taken (glyph_at l 0)) left
      ∙ ap is_taken (glyph_at-drop g.count s.input) ∙ g.at (omega (arith, long, some))

  -- glyphs are passed over from the cursor on
  goes : (old : Now) (done : Bool) (new : State) → old.buffer.have_output ≡ true
      → GoesOn lookup substitutions.options.mask 0 old.buffer done new → UnderWay 0 old (Ok done) (record old { buffer = new })
  goes old done new is g =
      under_way 0 g.count old done (record old { buffer = new }) (omega arith)
      (came_same g.count old old (put g.count old.buffer).done done (put g.count old.buffer).state new g.gives.answer
      (λ _. g.gives.state) (came g.count old is g.within (λ k less. g.passed k (omega arith) less)))
      (next_by 0 old.buffer done new g is)

  module _ (old mid : Now) (some : 0 < length old.buffer.input) (taken : is_taken (glyph_at old.buffer.input 0) ≡ true) where
    tried : (result : Result Bool AllocError) (new : Now) → IsTried substitutions lookup old result new → Glyph old result new
    tried result new t = record {
      some = some;
      others = λ none. absurd (false≢true (sym none ∙ taken));
      taken = λ _. t;
    }

    applied : IsTurnAt 64 substitutions lookup old (Ok Applied) mid → Glyph old (Ok true) mid
    applied turn = tried (Ok true) mid (record { step = Ok Applied; mid = mid; turn = turn; past = (refl, refl) })

    passed : IsTurnAt 64 substitutions lookup old (Ok Passed) mid → (result : Result Bool AllocError) (new : Now)
        → IsPutOut mid result new → Glyph old result new
    passed turn result new is =
        tried result new (record { step = Ok Passed; mid = mid; turn = turn; past = is })

    pub turn_failed : (e : AllocError) (result : Result Bool AllocError) → IsErr result
        → IsTurnAt 64 substitutions lookup old (Err e) mid → UnderWay 1 old result mid
    turn_failed e (Ok done) failed turn = absurd (false≢true failed)
    turn_failed e (Err f) failed turn =
        stopped_here old mid (Err f)
        (tried (Err f) mid (record { step = Err e; mid = mid; turn = turn; past = refl })) tt

    pub turn_refused : IsTurnAt 64 substitutions lookup old (Ok Refused) mid → UnderWay 1 old (Ok false) mid
    turn_refused turn =
        stopped_here old mid (Ok false)
        (tried (Ok false) mid (record { step = Ok Refused; mid = mid; turn = turn; past = (refl, refl) })) refl

    after_applied_ok : (done : Bool) (new : State) → IsTurnAt 64 substitutions lookup old (Ok Applied) mid
        → mid.buffer.have_output ≡ true → GoesOn lookup substitutions.options.mask 0 mid.buffer done new
        → UnderWay 1 old (Ok done) (record mid { buffer = new })
    after_applied_ok done new turn is g =
        under_way_then 1 old mid done (record mid { buffer = new }) (done_one old mid (applied turn)) (goes mid done new is g)

    after_passed_ok : (done : Bool) (new : State) → IsTurnAt 64 substitutions lookup old (Ok Passed) mid
        → mid.buffer.have_output ≡ true → 0 < length mid.buffer.input
        → GoesOn lookup substitutions.options.mask 1 mid.buffer done new
        → UnderWay 1 old (Ok done) (record mid { buffer = new })
    after_passed_ok done new turn is more g =
        let count : 1 ≤ g.count = omega (arith, g.from, more) in
        under_way 1 g.count old done (record mid { buffer = new }) count
        (came_same g.count old mid (put g.count mid.buffer).done done (put g.count mid.buffer).state new g.gives.answer
        (λ _. g.gives.state)
        (came_tried g.count old mid is (omega (arith, count)) g.within
        (λ k up less. g.passed k (omega (arith, up)) less) (passed turn)))
        (next_by 1 mid.buffer done new g is)

    -- the answers of a turn and of what is passed over after it
    abbrev Goes : ℕ → Result Bool AllocError → State → Type 0
    Goes start result new =
        IfOk result (λ done. GoesOn lookup substitutions.options.mask start mid.buffer done new)
        × (IsErr result → IsWanting lookup substitutions.options.mask start mid.buffer)

    pub after_applied : (result : Result Bool AllocError) (new : State) → IsTurnAt 64 substitutions lookup old (Ok Applied) mid
        → mid.buffer.have_output ≡ true → Goes 0 result new → UnderWay 1 old result (record mid { buffer = new })
    after_applied (Ok done) new turn is g = after_applied_ok done new turn is g.0
    after_applied (Err e) new turn is g =
        let w = g.1 refl in
        stopped_then 1 old mid (Err e) (done_one old mid (applied turn))
        (stopped_here mid mid (Err e) (record {
          some = w.some;
          others = λ _. w.separate;
          taken = λ holds. absurd (false≢true (sym (w.first refl) ∙ holds));
        }) tt)

    pub after_passed : (result : Result Bool AllocError) (new : State) → IsTurnAt 64 substitutions lookup old (Ok Passed) mid
        → mid.buffer.have_output ≡ true → 0 < length mid.buffer.input → Goes 1 result new
        → UnderWay 1 old result (record mid { buffer = new })
    after_passed (Ok done) new turn is some_left g = after_passed_ok done new turn is some_left g.0
    after_passed (Err e) new turn is some_left g =
        let w = g.1 refl in stopped_here old mid (Err e) (passed turn (Err e) mid w.separate) tt

  -- ---- turns

  pub has_none : (old : Now) → (0 < length old.buffer.input → is_taken (glyph_at old.buffer.input 0) ≡ true)
      → HasDone substitutions lookup 0 old old
  has_none old next = record { turns = 0; from = omega arith; glyphs = done_none old; next = next }

  pub has_more : (t : ℕ) (old mid new : Now) → HasDone substitutions lookup t old mid → HasDone substitutions lookup 1 mid new
      → HasDone substitutions lookup (t + 1) old new
  has_more t old mid new first second = record {
    turns = first.turns + second.turns;
    from = omega (arith, first.from, second.from);
    glyphs = done_then first.turns second.turns old mid new first.glyphs second.glyphs;
    next = second.next;
  }

  -- ---- what is left of a text

  stopped_failed : (old : Now) (e : AllocError) (result : Result Bool AllocError) → IsErr result → Stopped old (Err e)
      → Stopped old result
  stopped_failed old e (Ok done) failed s = absurd (false≢true failed)
  stopped_failed old e (Err f) failed s = s

  under_way_failed : (least : ℕ) (old new : Now) (told : Result Bool AllocError) (e : AllocError)
      (result : Result Bool AllocError) → told ≡ Err e → IsErr result → UnderWay least old told new → Stopped old result
  under_way_failed least old new told e result was failed w =
      stopped_failed old e result failed (subst (λ (r : Result Bool AllocError). UnderWay least old r new) was w)

  pub rest_ended : (t : ℕ) (old new : Now) → HasDone substitutions lookup t old new
      → ((length new.buffer.input ≡ 0) ⊎ (length old.buffer.input ≤ t))
      → IsRestDone substitutions lookup old (Ok true) new
  rest_ended t old new has all = record { least = t; way = has; all = all }

  rest_stopped : (old : Now) (result : Result Bool AllocError) (new : Now) → Stopped old result
      → IsRestDone substitutions lookup old result new
  rest_stopped old (Ok true) new s = absurd (false≢true (sym s.stop))
  rest_stopped old (Ok false) new s = record { least = length old.buffer.input; way = s; all = inr (omega arith) }
  rest_stopped old (Err e) new s = record { least = length old.buffer.input; way = s; all = inr (omega arith) }

  module _ (t : ℕ) (old mid next : Now) (told : Result Bool AllocError) (has : HasDone substitutions lookup t old mid)
      (w : UnderWay 1 mid told next) where
    pub rest_failed : (e : AllocError) (result : Result Bool AllocError) (new : Now) → told ≡ Err e → IsErr result
        → IsRestDone substitutions lookup old result new
    rest_failed e result new was failed =
        rest_stopped old result new
        (stopped_then has.turns old mid result has.glyphs (under_way_failed 1 mid next told e result was failed w))

    pub rest_refused : (new : Now) → told ≡ Ok false → IsRestDone substitutions lookup old (Ok false) new
    rest_refused new was =
        rest_stopped old (Ok false) new
        (stopped_then has.turns old mid (Ok false) has.glyphs
        (subst (λ (r : Result Bool AllocError). UnderWay 1 mid r next) was w))

    pub rest_more : told ≡ Ok true → HasDone substitutions lookup (t + 1) old next
    rest_more was = has_more t old mid next has (subst (λ (r : Result Bool AllocError). UnderWay 1 mid r next) was w)

  -- the answer of what is left
  pub way_failed : (old new : Now) (told : Result Bool AllocError) (e : AllocError) (result : Result Bool AllocError)
      → told ≡ Err e → IsErr result → IsRestDone substitutions lookup old told new → Stopped old result
  way_failed old new told e result was failed r = under_way_failed r.least old new told e result was failed r.way

  pub way_refused : (old new : Now) (told : Result Bool AllocError) → told ≡ Ok false
      → IsRestDone substitutions lookup old told new → Stopped old (Ok false)
  way_refused old new told was r = subst (λ (x : Result Bool AllocError). UnderWay r.least old x new) was r.way

  pub way_ended : (old new : Now) (told : Result Bool AllocError) → told ≡ Ok true
      → (r : IsRestDone substitutions lookup old told new) → HasDone substitutions lookup r.least old new
  way_ended old new told was r = subst (λ (x : Result Bool AllocError). UnderWay r.least old x new) was r.way

  -- the output is opened, and the first glyphs are put out
  pub opened_done : (n : ℕ) (old : Now) → n ≤ length old.buffer.input → length old.buffer.input ≤ old.buffer.max_len
      → ((k : ℕ) → k < n → is_taken (glyph_at old.buffer.input k) ≡ false)
      → Done n (opened old) (record old { buffer = opened_at n old.buffer })
  opened_done n old within long none =
      let s = old.buffer in
      let l = s.input in
      let c = clear_output s in
      let put_is : put n c ≡ unlimited (opened_at n s) =
      cond_both (n == 0) _ _ (λ (r : Outcome). r ≡ unlimited (opened_at n s))
      (λ e. ap (λ k. unlimited (opened_at k s)) (sym (eqb-true n 0 e)))
      (λ _. next_glyphs-opened n s within long) in
      subst (λ (r : Outcome). CameTo n (opened old) r.done (record old { buffer = r.state })) put_is
      (came n (opened old) refl within none)

-- ---- a text

none_of : (test : hb_glyph_info_t → Bool) (l : List hb_glyph_info_t) → ((k : ℕ) → k < length l → test (glyph_at l k) ≡ false)
    → list_any test l ≡ false
none_of test [] none = refl
none_of test (x ∷ l) none =
    ap (λ b. b || list_any test l) (none 0 (omega arith))
    ∙ none_of test l (λ k less. none (suc k) (omega (arith, less)))

module _ (substitutions : Substitutions) (lookup : Lookup) (old : Now) where
  abbrev of : hb_glyph_info_t → Bool
  of = is_for lookup substitutions.options.mask

  pub run_none : ((k : ℕ) → k < length old.buffer.input → of (glyph_at old.buffer.input k) ≡ false)
      → IsRunOf substitutions lookup old (Ok true) old
  run_none none =
      let fails : list_any of old.buffer.input ≡ false = none_of of old.buffer.input none in
      record {
        none = λ _. (refl, refl);
        forward = λ holds. absurd (false≢true (sym fails ∙ holds));
        backward = λ holds. absurd (false≢true (sym fails ∙ holds));
      }

  module _ (first : ℕ) (within : first < length old.buffer.input) (at : of (glyph_at old.buffer.input first) ≡ true) where
    some_of : list_any of old.buffer.input ≡ true
    some_of = list_any_at of old.buffer.input first zero_glyph within at

    pub run_forward : (result : Result Bool AllocError) (new : Now) → starts_reverse (subtables substitutions lookup) ≡ false
        → IsForward substitutions lookup old result new → IsRunOf substitutions lookup old result new
    run_forward result new ahead is = record {
      none = λ fails. absurd (false≢true (sym fails ∙ some_of));
      forward = λ _ _. is;
      backward = λ _ back. absurd (false≢true (sym ahead ∙ back));
    }

    pub run_backward : (new : Now) → starts_reverse (subtables substitutions lookup) ≡ true
        → AreDoneBackward substitutions lookup (length old.buffer.input) old new
        → IsRunOf substitutions lookup old (Ok true) new
    run_backward new back is = record {
      none = λ fails. absurd (false≢true (sym fails ∙ some_of));
      forward = λ _ ahead. absurd (false≢true (sym ahead ∙ back));
      backward = λ _ _. (refl, is);
    }

  -- ---- from its end

  backward_none : AreDoneBackward substitutions lookup 0 old old
  unfolding AreDoneBackward
  backward_none = refl

  backward_first : (n : ℕ) (mid new : Now) → IsPlaceDone substitutions lookup n old mid
      → AreDoneBackward substitutions lookup n mid new → AreDoneBackward substitutions lookup (suc n) old new
  unfolding AreDoneBackward
  backward_first n mid new first rest = record { mid = mid; first = first; others = rest }

  pub backward_next : (n place k : ℕ) (mid new : Now) → place ≡ n → k ≡ suc n → IsPlaceDone substitutions lookup place old mid
      → AreDoneBackward substitutions lookup n mid new → AreDoneBackward substitutions lookup k old new
  backward_next n place k mid new at count first rest =
      subst (λ j. AreDoneBackward substitutions lookup j old new) (sym count)
      (backward_first n mid new (subst (λ j. IsPlaceDone substitutions lookup j old mid) at first) rest)

  pub backward_ended : (n : ℕ) → n ≡ 0 → AreDoneBackward substitutions lookup n old old
  backward_ended n none = subst (λ k. AreDoneBackward substitutions lookup k old old) (sym none) backward_none
