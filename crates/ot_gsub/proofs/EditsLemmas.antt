-- What comes of the edits of one glyph.
use Rattle.std.proofs.Common.{◌≡◌, ℕ, zero, suc, ◌+◌, ◌-◌, ◌<◌, ◌≤◌, Bool, true, false, List, [], ◌∷◌, ◌++◌, length, map, take, drop, arith}
use Rattle.std.proofs.Common.{Some, Result, Ok, Err, IfOk, refl, sym, ap, subst, ◌∙◌, inl, inr, add-one, length-append, length-drop, length-take}
use Rattle.std.proofs.lemmas.Bool.{cond-true, cond-false, cond_both, cases_lt, eq-eqb, ne_eqb, lt-ltb, false≢true}
use Rattle.std.proofs.lemmas.List.{get_or_at, take-append-drop}
use Rattle.std.specs.Prelude.{nat_le, slice_index_or, ◌&&◌, ◌||◌}
use Rattle.std.specs.declared.alloc.AllocError.{AllocError}
use Rattle.rb_glyph.specs.declared.info.hb_glyph_info_t.{hb_glyph_info_t}
use Rattle.ot_substitution.specs.GlyphTable.{listed, listed_glyph}
use Rattle.glyph_lists.specs.Clusters.{zero_glyph}
use Rattle.glyph_lists.specs.Parts.{on_part, part}
use Rattle.glyph_lists.specs.Scans.{part_scan, scan_least, two_part_scan}
use Rattle.glyph_lists.specs.declared.glyph_flags.TheConstants.{BREAK_BITS}
use Rattle.glyph_lists.proofs.ScansLemmas.{length-part_scan}
use Rattle.shaping_buffer.specs.State.{State, len}
use Rattle.shaping_buffer.specs.ClusterStep.{any_order, both, both_place, range_end}
use Rattle.shaping_buffer.specs.Step.{MeetsOrWants, Outcome, glyph_to_copy, limited, output_glyph, put_out, settled, skip_glyph, unlimited, with_id}
use Rattle.ot_gsub.specs.Edits.{Gives, mark_all, multiply, put_part, put_parts, then_do}
use Rattle.ot_gsub.specs.Writing.{drop_behind, glyph_ahead, has_twin_before}

-- ---- a glyph that is dropped

pub drop_behind-twin : (s : State) → has_twin_before s ≡ true → drop_behind s ≡ skip_glyph s
drop_behind-twin s twin = cond-true _ _ _ (ap (λ b. b || any_order s) twin)

-- ---- outcomes

pub outcome_is : (o : Outcome) (new : State) → true ≡ o.done → new ≡ o.state → o ≡ unlimited new
outcome_is o new done is =
    ap (λ d. record { done = d; state = o.state }) (sym done)
    ∙ ap (λ (t : State). record { done = true; state = t }) (sym is)

pub state-limited : (held : ℕ) (s after : State) → (limited held s after).done ≡ true
    → (limited held s after).state ≡ settled after
state-limited held s after =
    cond_both (nat_le held s.max_len) _ _ (λ (o : Outcome). o.done ≡ true → o.state ≡ settled after) (λ _ _. refl)
    (λ _ e. absurd (false≢true e))

-- ---- parts of a glyph

module _ (gdef : List ℕ) (whole : hb_glyph_info_t) (table : List ℕ) (s : State) where
  abbrev parts : ℕ → Outcome
  parts n = put_parts gdef whole table n s

  abbrev next_part : ℕ → State → Outcome
  next_part n b = put_part gdef whole n (listed_glyph table n) b

  pub parts_none : parts 0 ≡ unlimited s
  unfolding put_parts
  parts_none = refl

  parts_next : (n : ℕ) (b : State) → parts n ≡ unlimited b → parts (n + 1) ≡ next_part n b
  unfolding put_parts
  parts_next n b is = ap parts (add-one n) ∙ ap (λ (o : Outcome). then_do o (next_part n)) is

  pub parts_more : (n : ℕ) (b new : State) → parts n ≡ unlimited b → Gives (next_part n b) true new
      → parts (n + 1) ≡ unlimited new
  parts_more n b new is g = parts_next n b is ∙ outcome_is (next_part n b) new g.answer g.state

  parts_refused : (m n : ℕ) → n ≤ m → (parts n).done ≡ false → parts m ≡ parts n
  unfolding put_parts
  parts_refused zero n up halt = let e : zero ≡ n = omega arith in ap parts e
  parts_refused (suc m) n up halt = elim (cases_lt n (suc m)) [
    | inl lt ↦
        let same : parts m ≡ parts n = parts_refused m n (omega arith) halt in
        ap (λ (o : Outcome). then_do o (next_part m)) same ∙ cond-false _ _ _ halt
    | inr ge ↦ let e : suc m ≡ n = omega arith in ap parts e
  ]

  abbrev then_skip : Outcome → Outcome
  then_skip o = then_do o (λ t. unlimited (skip_glyph t))

  multiply_is : whole ≡ glyph_ahead 0 s → 0 < listed table → multiply gdef table s ≡ then_skip (parts (listed table))
  multiply_is is some =
      cond-false _ _ _ (ne_eqb (listed table) 0 (λ e. omega arith))
      ∙ ap (λ (g : hb_glyph_info_t). then_skip (put_parts gdef g table (listed table) s)) (sym is)

  -- one was refused
  pub multiply_refused : (n : ℕ) (b new : State) → whole ≡ glyph_ahead 0 s → n < listed table
      → parts n ≡ unlimited b → Gives (next_part n b) false new → Gives (multiply gdef table s) false new
  multiply_refused n b new is more done g =
      let last = parts_next n b done in
      let no : (parts (n + 1)).done ≡ false = ap (λ (o : Outcome). o.done) last ∙ sym g.answer in
      let same : parts (listed table) ≡ parts (n + 1) = parts_refused (listed table) (n + 1) (omega arith) no in
      let e : multiply gdef table s ≡ next_part n b =
      multiply_is is (omega arith) ∙ ap then_skip same ∙ cond-false _ _ _ no ∙ last in
      record {
        answer = g.answer ∙ sym (ap (λ (o : Outcome). o.done) e);
        state = g.state ∙ sym (ap (λ (o : Outcome). o.state) e);
      }

-- ---- a copy that is put out is in the cluster of the current glyph

and_true : (a b : Bool) → a ≡ true → b ≡ true → (a && b) ≡ true
and_true a b p q = ap (λ x. x && b) p ∙ q

slice_index_or-push : (o : List hb_glyph_info_t) (y : hb_glyph_info_t)
    → slice_index_or (o ++ y ∷ []) (length (o ++ y ∷ []) - 1) zero_glyph ≡ y
slice_index_or-push o y = get_or_at o y [] zero_glyph (length (o ++ y ∷ []) - 1) (omega (arith, length-append o (y ∷ [])))

twin_put_at : (b : State) (l : List hb_glyph_info_t) (glyph : ℕ) → 0 < length l
    → (output_glyph glyph (record b { have_output = true; input = l })).done ≡ true
    → has_twin_before (output_glyph glyph (record b { have_output = true; input = l })).state ≡ true
twin_put_at b [] glyph some done = absurd (omega (arith, some))
twin_put_at b (x ∷ xs) glyph some done =
    let y = with_id glyph x in
    let s : State = record b { have_output = true; input = x ∷ xs } in
    let after : State = record s { out = b.out ++ y ∷ [] } in
    let copied : glyph_to_copy s ≡ x ∷ [] = cond-false _ _ _ (ne_eqb (length (x ∷ xs)) 0 (λ e. omega (arith, some))) in
    let put : output_glyph glyph s ≡ limited (length (b.out ++ y ∷ [])) s after =
    ap (λ (l : List hb_glyph_info_t). put_out (map (with_id glyph) l) s s) copied in
    subst (λ (t : State). has_twin_before t ≡ true)
    (sym (ap (λ (o : Outcome). o.state) put
    ∙ state-limited (length (b.out ++ y ∷ [])) s after (sym (ap (λ (o : Outcome). o.done) put) ∙ done)))
    (and_true _ _ (lt-ltb 0 (length (b.out ++ y ∷ [])) (omega (arith, length-append b.out (y ∷ []))))
    (eq-eqb _ _ (ap (λ (g : hb_glyph_info_t). g.cluster) (slice_index_or-push b.out y))))

pub twin_put : (s : State) (glyph : ℕ) → s.have_output ≡ true → 0 < length s.input
    → (output_glyph glyph s).done ≡ true → has_twin_before (output_glyph glyph s).state ≡ true
twin_put s glyph opened some =
    subst (λ (t : State). (output_glyph glyph t).done ≡ true → has_twin_before (output_glyph glyph t).state ≡ true)
    (sym (ap (λ h. record s { have_output = h }) opened)) (twin_put_at s s.input glyph some)

pub twin_by_meets : (may_want : Type 0) (s : State) (glyph : ℕ) (result : Result Bool AllocError) (new : State)
    → s.have_output ≡ true → 0 < length s.input → MeetsOrWants may_want (output_glyph glyph s) s result new
    → IfOk result (λ done. done ≡ true → has_twin_before new ≡ true)
twin_by_meets may_want s glyph (Ok done) new opened some m = λ yes.
    subst (λ (t : State). has_twin_before t ≡ true) (sym m.1) (twin_put s glyph opened some (sym m.0 ∙ yes))
twin_by_meets may_want s glyph (Err e) new opened some m = tt

-- ---- marks leave as many glyphs

length-two_part_scan : (any : Bool) (bits k : ℕ) (r : List hb_glyph_info_t)
    → length (two_part_scan any bits k r) ≡ length r
unfolding two_part_scan
length-two_part_scan any bits k r =
    let m = scan_least any (take k r) (drop k r) in
    length-append (part_scan any bits m (take k r)) (part_scan any bits m (drop k r))
    ∙ omega (
      arith,
      length-part_scan any bits m (take k r),
      length-part_scan any bits m (drop k r),
      length-append (take k r) (drop k r),
      ap length (take-append-drop k r),
    )

pub length-mark_all : (s : State) → length (mark_all s).input ≡ length s.input
length-mark_all s =
    let l = both s in
    let q = both_place s (range_end (Some (len s)) s) in
    let marked = on_part (two_part_scan (any_order s) BREAK_BITS (length s.out - 0)) l 0 q in
    let scanned = two_part_scan (any_order s) BREAK_BITS (length s.out - 0) (part l 0 q) in
    let same : length marked ≡ length l = omega (
      arith,
      length-append (take 0 l ++ scanned) (drop q l),
      length-append (take 0 l) scanned,
      length-two_part_scan (any_order s) BREAK_BITS (length s.out - 0) (part l 0 q),
      length-take (q - 0) (drop 0 l),
      length-drop 0 l,
      length-take 0 l,
      length-drop q l,
    ) in
    length-drop (length s.out) marked ∙ omega (arith, same, length-append s.out s.input)
