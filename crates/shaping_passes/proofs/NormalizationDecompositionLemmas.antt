-- The parts of a character are put out, and so are those of a list, one by one.
use Rattle.std.proofs.Common.{◌≡◌, ℕ, ◌+◌, ◌-◌, ◌<◌, ◌≤◌, inl, inr, Bool, true, false, List, [], ◌∷◌, ◌++◌, ◌||◌}
use Rattle.std.proofs.Common.{length, get_or, take, drop, refl, sym, ap, ◌∙◌, subst, cond, ltb, leb, Result, Ok, Err}
use Rattle.std.proofs.Common.{arith, length-append, length-drop}
use Rattle.std.proofs.lemmas.Bool.{cond-true, cond-false, cases_Bool, false≢true, leb-true, leb-false, lt-ltb}
use Rattle.std.proofs.lemmas.Bool.{or_left, ltb-true, and_right, or_cases}
use Rattle.std.proofs.lemmas.List.{take_more, drop-drop, get_or-drop, append-nil, take-append-drop, get_or_default}
use Rattle.glyph_lists.specs.Deletion.{merge_or_mark}
use Rattle.std.proofs.lemmas.List.Concat.{flat_map-append}
use Rattle.std.specs.declared.alloc.AllocError.{AllocError}
use Rattle.std.specs.Result.{IsErr}
use Rattle.rb_glyph.specs.declared.info.hb_glyph_info_t.{hb_glyph_info_t}
use Rattle.glyph_lists.specs.Clusters.{zero_glyph}
use Rattle.glyph_lists.specs.Replacement.{copies}
use Rattle.glyph_lists.proofs.LengthsLemmas.{length_copies}
use Rattle.glyph_lists.proofs.MergedHeadLemmas.{short_leaves}
use Rattle.shaping_buffer.specs.State.{State, lookahead_len}
use Rattle.shaping_buffer.specs.ClusterStep.{any_order, head_of, flagged_if}
use Rattle.shaping_buffer.specs.Step.{Outcome, limited, settled, put_out, skip_glyph, next_glyph, replace_glyphs}
use Rattle.shaping_buffer.specs.Step.{Meets, clear_output}
use Rattle.shaping_buffer.proofs.ReplacementLemmas.{replace_glyphs-sides}
use Rattle.shaping_passes.specs.NormalizationDecomposition.{Font, decomposed, decomposition_with, stopped_at}
use Rattle.shaping_passes.specs.NormalizationDecomposition.{Decomposes}
use Rattle.shaping_passes.proofs.NormalizationCharacterLemmas.{length_with}

-- ---- the calls

-- one glyph gives way to copies of it
pub replace_glyphs-one : (ids : List ℕ) (s : State) → s.have_output ≡ true → 0 < length s.input
    → replace_glyphs 1 ids s ≡ put_out (copies (head_of s) ids) s (skip_glyph s)
replace_glyphs-one ids s opened some =
    let leaves = short_leaves (any_order s) 1 s.out s.input (omega arith) (omega arith) in
    let held : length s.out + length ids ≡ length (s.out ++ copies (head_of s) ids) =
    omega (arith, length-append s.out (copies (head_of s) ids), length_copies (head_of s) ids) in
    let F : Bool → List hb_glyph_info_t → hb_glyph_info_t → List hb_glyph_info_t → State = λ b o g r. record s {
      out = o ++ copies g ids;
      input = r;
      idx = s.idx + 1;
      scratch_flags = flagged_if b s;
    } in
    let G : State → Outcome = λ after. limited (length s.out + length ids) s after in
    let l = merged in
    replace_glyphs-sides 1 ids s opened
    ∙ ap (λ b. G (F b (take (length s.out) l) (get_or (drop (length s.out) l) 0 zero_glyph)
    (drop 1 (drop (length s.out) l)))) (and_right (any_order s) false refl)
    ∙ ap (λ o. G (F false o (get_or (drop (length s.out) l) 0 zero_glyph) (drop 1 (drop (length s.out) l)))) leaves.before
    ∙ ap (λ g. G (F false s.out g (drop 1 (drop (length s.out) l)))) leaves.head
    ∙ ap (λ r. G (F false s.out (head_of s) r)) leaves.behind
    ∙ ap (λ n. limited n s (F false s.out (head_of s) (drop 1 s.input))) held
    ∙ ap (λ b. limited (length (s.out ++ copies (head_of s) ids)) s
    (record s { out = s.out ++ copies (head_of s) ids; input = cond b (drop 1 s.input) s.input; idx = s.idx + 1 }))
    (sym opened)
  where
    merged : List hb_glyph_info_t
    merged = merge_or_mark (any_order s) (s.out ++ s.input) (length s.out) (length s.out + 1) 0

take_one : (l : List hb_glyph_info_t) → 0 < length l → take 1 l ≡ get_or l 0 zero_glyph ∷ []
take_one [] some = absurd (omega arith)
take_one (g ∷ l) some = refl

-- one glyph is put out as it is
pub next_glyph-put_out : (s : State) → s.have_output ≡ true → 0 < length s.input
    → next_glyph s ≡ put_out (copies (head_of s) ((head_of s).glyph_id ∷ [])) s (skip_glyph s)
next_glyph-put_out s opened some =
    cond-true _ _ _ opened ∙ ap (λ l. put_out l s (skip_glyph s)) (take_one s.input some)

pub left : (s : State) → s.have_output ≡ true → 0 < lookahead_len s → 0 < length s.input
left s opened some =
    let e : lookahead_len s ≡ s.idx + length s.input - s.idx = ap (λ n. n - s.idx) (cond-true _ _ _ opened) in
    omega arith

pub head_is : (s : State) (g : hb_glyph_info_t) → s.have_output ≡ true → 0 < lookahead_len s
    → g ≡ get_or s.input (cond s.have_output 0 (s.idx + 0)) g → g ≡ head_of s
head_is s g opened some at =
    at ∙ ap (λ k. get_or s.input k g) (cond-true _ _ _ opened) ∙ get_or_default s.input 0 g zero_glyph (left s opened some)

-- ---- what came of a call

limited_done : (held : ℕ) (before after : State) → (limited held before after).done ≡ true
    → (held ≤ before.max_len) × ((limited held before after).state ≡ settled after)
limited_done held before after e =
    elim (cases_Bool (leb held before.max_len)) [
      | inl t ↦ (leb-true held before.max_len t, ap (λ (o : Outcome). o.state) (cond-true _ _ _ t))
      | inr f ↦ absurd (false≢true (sym (ap (λ (o : Outcome). o.done) (cond-false _ _ _ f)) ∙ e))
    ]

limited_refused : (held : ℕ) (before after : State) → (limited held before after).done ≡ false
    → (before.max_len < held) × ((limited held before after).state ≡ record before { successful = false })
limited_refused held before after e =
    elim (cases_Bool (leb held before.max_len)) [
      | inl t ↦ absurd (false≢true (sym e ∙ ap (λ (o : Outcome). o.done) (cond-true _ _ _ t)))
      | inr f ↦ (leb-false held before.max_len f, ap (λ (o : Outcome). o.state) (cond-false _ _ _ f))
    ]

-- ---- along the list

length_replaced : (font : Font) (g : hb_glyph_info_t) → 1 ≤ length (copies g (decomposition_with font g.glyph_id))
length_replaced font g =
    let ids = decomposition_with font g.glyph_id in
    omega (arith, length_copies g ids, length_with font g.glyph_id)

-- a list does not become shorter
decomposed-longer : (font : Font) (l : List hb_glyph_info_t) → length l ≤ length (decomposed font l)
unfolding decomposed
decomposed-longer font [] = omega arith
decomposed-longer font (g ∷ l) =
    let ids = decomposition_with font g.glyph_id in
    omega (arith, length-append (copies g ids) (decomposed font l), length_replaced font g, decomposed-longer font l)

decomposed-append : (font : Font) (l r : List hb_glyph_info_t)
    → decomposed font (l ++ r) ≡ decomposed font l ++ decomposed font r
unfolding decomposed
decomposed-append font l r = flat_map-append _ l r

-- one character more
decomposed_more : (font : Font) (l : List hb_glyph_info_t) (k : ℕ) → k < length l
    → decomposed font (take (k + 1) l)
    ≡ decomposed font (take k l) ++ copies (get_or l k zero_glyph) (decomposition_with font (get_or l k zero_glyph).glyph_id)
unfolding decomposed
decomposed_more font l k some =
    let g = get_or l k zero_glyph in
    ap (decomposed font) (take_more l k zero_glyph some) ∙ decomposed-append font (take k l) (g ∷ [])
    ∙ ap (λ (x : List hb_glyph_info_t). decomposed font (take k l) ++ x)
    (append-nil (copies g (decomposition_with font g.glyph_id)))

-- where a beginning becomes longer, so does the list
grown : (font : Font) (l : List hb_glyph_info_t) (k : ℕ) → k ≤ length l → k < length (decomposed font (take k l))
    → length l < length (decomposed font l)
grown font l k in_l more =
    let whole = ap (λ (x : List hb_glyph_info_t). length (decomposed font x)) (take-append-drop k l) in
    let parts = ap length (decomposed-append font (take k l) (drop k l)) in
    let both = length-append (decomposed font (take k l)) (decomposed font (drop k l)) in
    omega (arith, whole, parts, both, decomposed-longer font (drop k l), length-drop k l)

-- a beginning is no longer than the list
longest : (font : Font) (l : List hb_glyph_info_t) (k : ℕ)
    → length (decomposed font (take k l)) ≤ length (decomposed font l)
longest font l k =
    let whole = ap (λ (x : List hb_glyph_info_t). length (decomposed font x)) (take-append-drop k l) in
    let parts = ap length (decomposed-append font (take k l) (drop k l)) in
    omega (arith, whole, parts, length-append (decomposed font (take k l)) (decomposed font (drop k l)))

-- the pass has come to character k, and what it put out is within the limit
pub record IsAt (font : Font) (s now : State) : Type 0 where
  pub k : ℕ
  pub is : now ≡ stopped_at k font s
  pub le : k ≤ length s.input
  pub within : length (decomposed font (take k s.input)) ≤ s.max_len

module _ (font : Font) (s : State) (k : ℕ) (some : k < length s.input) where
  abbrev now : State
  now = stopped_at k font s

  abbrev next : Outcome
  next = put_out (copies (head_of now) (decomposition_with font (head_of now).glyph_id)) now (skip_glyph now)

  head_at : head_of now ≡ get_or s.input k zero_glyph
  head_at =
      let e : k + 0 ≡ k = omega arith in
      get_or-drop k s.input 0 zero_glyph ∙ ap (λ i. get_or s.input i zero_glyph) e

  out_at : now.out ++ copies (head_of now) (decomposition_with font (head_of now).glyph_id)
      ≡ decomposed font (take (k + 1) s.input)
  out_at =
      ap (λ g. now.out ++ copies g (decomposition_with font g.glyph_id)) head_at
      ∙ sym (decomposed_more font s.input k some)

  separate_at : (ltb k (length now.out) || ltb (k + 1) (length (decomposed font (take (k + 1) s.input))))
      ≡ ltb (k + 1) (length (decomposed font (take (k + 1) s.input)))
  separate_at =
      let m = length (decomposed font (take (k + 1) s.input)) in
      elim (cases_Bool (ltb k (length now.out))) [
        | inl t ↦
            let longer = ap length (decomposed_more font s.input k some) in
            let g = get_or s.input k zero_glyph in
            let both = length-append now.out (copies g (decomposition_with font g.glyph_id)) in
            let one = length_replaced font g in
            let before = ltb-true k (length now.out) t in
            let after : k + 1 < m = omega (arith, longer, both, one) in
            or_left _ (ltb (k + 1) m) t ∙ sym (lt-ltb (k + 1) m after)
        | inr f ↦ ap (λ b. b || ltb (k + 1) m) f
      ]

  pub next_at : settled (record (skip_glyph now) {
    out = now.out ++ copies (head_of now) (decomposition_with font (head_of now).glyph_id);
  })
      ≡ stopped_at (k + 1) font s
  next_at =
      let F : List hb_glyph_info_t → List hb_glyph_info_t → Bool → State = λ o r b. record now {
        out = o;
        input = r;
        idx = k + 1;
        have_separate_output = b;
      } in
      ap (λ o. F o (drop 1 (drop k s.input)) (ltb k (length now.out) || ltb (k + 1) (length o))) out_at
      ∙ ap (λ r. F (decomposed font (take (k + 1) s.input)) r
      (ltb k (length now.out) || ltb (k + 1) (length (decomposed font (take (k + 1) s.input)))))
      (drop-drop 1 k s.input)
      ∙ ap (λ b. F (decomposed font (take (k + 1) s.input)) (drop (k + 1) s.input) b) separate_at

  abbrev after : State
  after = record (skip_glyph now) {
    out = now.out ++ copies (head_of now) (decomposition_with font (head_of now).glyph_id);
  }

  abbrev held : ℕ
  held = length (now.out ++ copies (head_of now) (decomposition_with font (head_of now).glyph_id))

  pub step_done : (new : State) → Meets next now (Ok true) new → IsAt font s new
  step_done new meets =
      let parts = limited_done held now after (sym meets.0) in
      record {
        k = k + 1;
        is = meets.1 ∙ parts.1 ∙ next_at;
        le = omega arith;
        within = omega (arith, parts.0, ap length out_at);
      }

  pub step_refused : (new : State) → s.successful ≡ true → length (decomposed font (take k s.input)) ≤ s.max_len
      → Meets next now (Ok false) new → Decomposes font s (Ok false) new
  step_refused new successful within meets =
      let parts = limited_refused held now after (sym meets.0) in
      inr (
        successful,
        (
          k,
          record { some = some; within = within; exceeds = omega (arith, parts.0, ap length out_at) },
          meets.1 ∙ parts.1,
        ),
      )

  pub step_failed : (e : AllocError) (new : State) → Meets next now (Err e) new → Decomposes font s (Err e) new
  step_failed e new meets =
      let state = (limited_done held now after meets.1).1 ∙ next_at in
      let separate = ap (λ (t : State). ltb k (length now.out) || t.have_separate_output) (sym state) ∙ meets.0.1 in
      let longer : length s.input < length (decomposed font s.input) =
      elim (or_cases (ltb k (length now.out)) _ separate) [
        | inl t ↦ grown font s.input k (omega arith) (ltb-true k (length now.out) t)
        | inr t ↦ grown font s.input (k + 1) (omega arith) (ltb-true (k + 1) _ t)
      ] in
      let past_room : s.room < length (decomposed font s.input) = elim meets.0.2 [
        | inl out ↦
            let more = longest font s.input (k + 1) in
            omega (arith, out.1, ap (λ (t : State). length t.out) state, more)
        | inr input ↦ absurd (omega (
          arith,
          input.0,
          ap (λ (t : State). length t.input) state,
          length-drop k s.input,
          length-drop (k + 1) s.input,
        ))
      ] in
      (longer, past_room, (k, omega arith, meets.2))

-- ---- the beginning

pub began : (font : Font) (s now : State) → now ≡ clear_output s → IsAt font s now
unfolding decomposed
began font s now e = record { k = 0; is = e; le = omega arith; within = omega arith }

-- ---- a turn of the pass

abbrev pub turn_of : Font → State → Outcome
turn_of font t =
    put_out (copies (head_of t) (decomposition_with font (head_of t).glyph_id)) t (skip_glyph t)

some_at : (font : Font) (s : State) (k : ℕ) → 0 < lookahead_len (stopped_at k font s) → k < length s.input
some_at font s k some = omega (arith, some, length-drop k s.input)

pub turn_done : (font : Font) (s now new : State) → IsAt font s now → 0 < lookahead_len now
    → Meets (turn_of font now) now (Ok true) new → IsAt font s new
turn_done font s now new a some meets =
    let P : State → Type 0 = λ t. 0 < lookahead_len t → Meets (turn_of font t) t (Ok true) new → IsAt font s new in
    subst P (sym a.is) (λ h m. step_done font s a.k (some_at font s a.k h) new m) some meets

pub turn_refused : (font : Font) (s now new : State) → IsAt font s now → 0 < lookahead_len now → s.successful ≡ true
    → Meets (turn_of font now) now (Ok false) new → Decomposes font s (Ok false) new
turn_refused font s now new a some successful meets =
    let P : State → Type 0 = λ t. 0 < lookahead_len t → Meets (turn_of font t) t (Ok false) new
    → Decomposes font s (Ok false) new in
    subst P (sym a.is) (λ h m. step_refused font s a.k (some_at font s a.k h) new successful a.within m) some meets

pub turn_failed : (font : Font) (s now new : State) (e : AllocError) → IsAt font s now → 0 < lookahead_len now
    → Meets (turn_of font now) now (Err e) new → Decomposes font s (Err e) new
turn_failed font s now new e a some meets =
    let P : State → Type 0 = λ t. 0 < lookahead_len t → Meets (turn_of font t) t (Err e) new
    → Decomposes font s (Err e) new in
    subst P (sym a.is) (λ h m. step_failed font s a.k (some_at font s a.k h) e new m) some meets

-- the same under another result that says so
pub turn_gave_up : (font : Font) (s now new : State) (e : AllocError) (told r : Result Bool AllocError) → IsAt font s now
    → 0 < lookahead_len now → told ≡ Err e → Meets (turn_of font now) now told new → IsErr r → Decomposes font s r new
turn_gave_up font s now new e told (Ok b) a some is meets gave_up = absurd (false≢true gave_up)
turn_gave_up font s now new e told (Err e2) a some is meets gave_up =
    let P : Result Bool AllocError → Type 0 = λ x. Meets (turn_of font now) now x new in
    turn_failed font s now new e a some (subst P is meets)
