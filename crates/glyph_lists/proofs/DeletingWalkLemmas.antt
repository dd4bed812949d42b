-- The deleting walk, turn by turn, in the list itself.
use Rattle.std.proofs.Common.{◌≡◌, ℕ, zero, suc, ◌+◌, ◌<◌, ◌≤◌, Bool, true, false, ◌&&◌, ◌||◌, List, [], ◌∷◌, ◌++◌}
use Rattle.std.proofs.Common.{length, get_or, take, drop, refl, sym, ap, subst, ◌∙◌, arith, length-append, length-drop}
use Rattle.std.proofs.lemmas.Bool.{cond-true, cond-false}
use Rattle.std.proofs.lemmas.List.{append_assoc, drop-drop, get_or-drop, length-take-le}
use Rattle.std.proofs.Math.Seq.{take-append_seam, drop-append-add}
use Rattle.rb_glyph.specs.declared.info.hb_glyph_info_t.{hb_glyph_info_t}
use Rattle.rb_glyph.specs.declared.position.GlyphPosition.{GlyphPosition}
use Rattle.glyph_lists.specs.Clusters.{zero_glyph}
use Rattle.glyph_lists.specs.Deletion.{OutAndRest, deletion}
use Rattle.glyph_lists.specs.DeletingWalk.{sides_at, head_of, after_next, after_deletion, after_turn, after_walk}
use Rattle.glyph_lists.specs.DeletingWalk.{kept_beside, deletion_merges, walk_merges}
use Rattle.glyph_lists.proofs.LengthsLemmas.{length-deletion}

-- a front of a front
take_front : {X : Type 0} (k i : ℕ) (l : List X) → k ≤ i → take k (take i l) ≡ take k l
take_front zero i l h = refl
take_front (suc k) zero l h = absurd (omega arith)
take_front (suc k) (suc i) [] h = refl
take_front (suc k) (suc i) (x ∷ l) h = ap (λ xs. x ∷ xs) (take_front k i l (omega arith))

abbrev the_sides : List hb_glyph_info_t → List hb_glyph_info_t → OutAndRest
the_sides xs ys = record { out = xs; rest = ys }

-- a deletion in the list, of which the front was lent in two parts
pub sides_at_deleted : (any_order : Bool) (k i : ℕ) (l front back out2 back2 : List hb_glyph_info_t) → k ≤ i
    → i < length l → front ≡ take i l → back ≡ drop i l
    → out2 ≡ (deletion any_order (take k front) (get_or back 0 zero_glyph) (drop 1 back)).out
    → drop 1 back2 ≡ (deletion any_order (take k front) (get_or back 0 zero_glyph) (drop 1 back)).rest
    → sides_at k (i + 1) (out2 ++ drop k front ++ back2) ≡ after_deletion any_order (sides_at k i l)
sides_at_deleted any_order k i l front back out2 back2 up within front_is back_is out_is rest_is =
    let d = deletion any_order (take k front) (get_or back 0 zero_glyph) (drop 1 back) in
    let same : take k front ≡ take k l = ap (take k) front_is ∙ take_front k i l up in
    let n : length out2 ≡ k = ap length out_is
    ∙ (length-deletion any_order (take k front) (get_or back 0 zero_glyph) (drop 1 back)).0 ∙ ap length same
    ∙ length-take-le k l (omega arith) in
    let m : length front ≡ i = ap length front_is ∙ length-take-le i l (omega arith) in
    let n2 : length (out2 ++ drop k front) ≡ i = simp (length-append, length-drop) (omega arith) in
    let new = out2 ++ drop k front ++ back2 in
    let first : take k new ≡ out2 = ap (take k) (append_assoc out2 (drop k front) back2)
    ∙ ap (λ j. take j (out2 ++ (drop k front ++ back2))) (sym n) ∙ take-append_seam out2 (drop k front ++ back2) in
    let second : drop (i + 1) new ≡ drop 1 back2 =
    ap (λ j. drop (j + 1) new) (sym n2) ∙ drop-append-add (out2 ++ drop k front) back2 1 in
    ap (λ xs. the_sides xs (drop (i + 1) new)) (first ∙ out_is)
    ∙ ap (λ ys. the_sides d.out ys) (second ∙ rest_is)
    ∙ ap (λ xs. deletion any_order xs (get_or back 0 zero_glyph) (drop 1 back)) same
    ∙ ap (λ ys. deletion any_order (take k l) (get_or ys 0 zero_glyph) (drop 1 ys)) back_is

-- the head of what is left
pub get_or-drop_zero_glyph : (i : ℕ) (l : List hb_glyph_info_t) → get_or (drop i l) 0 zero_glyph ≡ get_or l i zero_glyph
get_or-drop_zero_glyph i l = let n : i + 0 ≡ i =
    omega arith in get_or-drop i l 0 zero_glyph ∙ ap (λ j. get_or l j zero_glyph) n

-- ---- what each turn keeps

or-merged_at_deletion : (merged any_order is merges later : Bool) → is ≡ true
    → ((merged || (any_order && merges)) || (any_order && later)) ≡ (merged || (any_order && ((is && merges) || later)))
or-merged_at_deletion true any_order is merges later h = refl
or-merged_at_deletion false false is merges later h = refl
or-merged_at_deletion false true true merges later h = refl
or-merged_at_deletion false true false merges later h = cc

or-merged_at_next : (merged any_order is merges later : Bool) → is ≡ false
    → (merged || (any_order && later)) ≡ (merged || (any_order && ((is && merges) || later)))
or-merged_at_next merged any_order false merges later h = refl
or-merged_at_next merged any_order true merges later h = cc

module _ (any_order : Bool) (test : hb_glyph_info_t → Bool) where
  kept_deletion : {X : Type 0} (s s2 : OutAndRest) (r : List X) → test (head_of s) ≡ true → s2 ≡ after_turn any_order test s
      → kept_beside any_order test s2 (drop 1 r) ≡ kept_beside any_order test s r
  kept_deletion s s2 [] h e = refl
  kept_deletion s s2 (p ∷ r) h e = ap (λ t. kept_beside any_order test t r) e ∙ sym (cond-true _ _ _ h)

  kept_next : {X : Type 0} (s s2 : OutAndRest) (r : List X) → test (head_of s) ≡ false → s2 ≡ after_turn any_order test s
      → take 1 r ++ kept_beside any_order test s2 (drop 1 r) ≡ kept_beside any_order test s r
  kept_next s s2 [] h e = refl
  kept_next s s2 (p ∷ r) h e = ap (λ t. p ∷ kept_beside any_order test t r) e ∙ sym (cond-false _ _ _ h)

  module _ (l0 : List hb_glyph_info_t) (ps0 : List GlyphPosition) where
    -- The first k of `l` were kept and those from i on are left: so many turns more lead to where the walk over `l0`
    -- leads.
    abbrev pub Leads : ℕ → ℕ → ℕ → List hb_glyph_info_t → List GlyphPosition → Bool → Type 0
    Leads turns k i l ps merges =
        (after_walk any_order test turns (sides_at k i l) ≡ after_walk any_order test (length l0) (sides_at 0 0 l0))
        × ((merges || (any_order && walk_merges any_order test turns (sides_at k i l)))
        ≡ (any_order && walk_merges any_order test (length l0) (sides_at 0 0 l0)))
        × (length ps0 ≡ length l0 → take k ps ++ kept_beside any_order test (sides_at k i l) (drop i ps)
        ≡ kept_beside any_order test (sides_at 0 0 l0) ps0)

    pub leads_first : Leads (length l0) 0 0 l0 ps0 false
    leads_first = (refl, refl, λ n. refl)

    pub leads_same : (t i k k2 : ℕ) (l l2 : List hb_glyph_info_t) (ps ps2 : List GlyphPosition) (m m2 : Bool) → k2 ≡ k
        → l2 ≡ l → ps2 ≡ ps → m2 ≡ m
        → Leads t k i l ps m → Leads t k2 i l2 ps2 m2
    leads_same t i k k2 l l2 ps ps2 m m2 ek el ep em h =
        subst (λ x. Leads t x i l2 ps2 m2) (sym ek)
        (subst (λ x. Leads t k i x ps2 m2) (sym el)
        (subst (λ x. Leads t k i l x m2) (sym ep) (subst (λ x. Leads t k i l ps x) (sym em) h)))

    module _ (turns t k i : ℕ) (l l2 : List hb_glyph_info_t) (ps : List GlyphPosition) (merges : Bool)
        (fewer : turns ≡ suc t) (before : Leads turns k i l ps merges) where
      abbrev now : OutAndRest
      now = sides_at k i l

      pub leads_deletion : (merges2 : Bool) → test (get_or l i zero_glyph) ≡ true
          → sides_at k (i + 1) l2 ≡ after_deletion any_order now
          → merges2 ≡ (merges || (any_order && deletion_merges now)) → Leads t k (i + 1) l2 ps merges2
      leads_deletion merges2 is e m =
          let h : test (head_of now) ≡ true = ap test (get_or-drop_zero_glyph i l) ∙ is in
          let s2 = sides_at k (i + 1) l2 in
          let made : s2 ≡ after_turn any_order test now = e ∙ sym (cond-true _ _ _ h) in (
            ap (after_walk any_order test t) made ∙ sym (ap (λ n. after_walk any_order test n now) fewer) ∙ before.0,
            ap (λ b. b || (any_order && walk_merges any_order test t s2)) m
                ∙ or-merged_at_deletion merges any_order (test (head_of now)) (deletion_merges now)
                (walk_merges any_order test t s2) h
                ∙ ap (λ s. merges || (any_order
                && ((test (head_of now) && deletion_merges now) || walk_merges any_order test t s))) made
                ∙ sym (ap (λ n. merges || (any_order && walk_merges any_order test n now)) fewer)
                ∙ before.1,
            λ n. ap (λ r. take k ps ++ kept_beside any_order test s2 r) (sym (drop-drop 1 i ps))
                ∙ ap (λ r. take k ps ++ r) (kept_deletion now s2 (drop i ps) h made)
                ∙ before.2 n,
          )

      pub leads_next : (ps2 : List GlyphPosition) → i < length l0 → length ps ≡ length ps0
          → test (get_or l i zero_glyph) ≡ false
          → take (k + 1) l2 ≡ take k l ++ take 1 (drop i l) → drop (i + 1) l2 ≡ drop 1 (drop i l)
          → (i < length ps → take (k + 1) ps2 ≡ take k ps ++ take 1 (drop i ps)) → drop (i + 1) ps2 ≡ drop 1 (drop i ps)
          → Leads t (k + 1) (i + 1) l2 ps2 merges
      leads_next ps2 within len_is is front rest front_pos rest_pos =
          let h : test (head_of now) ≡ false = ap test (get_or-drop_zero_glyph i l) ∙ is in
          let s2 = sides_at (k + 1) (i + 1) l2 in
          let moved : s2 ≡ after_next now = ap (λ xs. the_sides xs (drop (i + 1) l2)) front
          ∙ ap (λ ys. the_sides (take k l ++ take 1 (drop i l)) ys) rest in
          let made : s2 ≡ after_turn any_order test now = moved ∙ sym (cond-false _ _ _ h) in (
            ap (after_walk any_order test t) made ∙ sym (ap (λ n. after_walk any_order test n now) fewer) ∙ before.0,
            or-merged_at_next merges any_order (test (head_of now)) (deletion_merges now)
                (walk_merges any_order test t s2) h
                ∙ ap (λ s. merges || (any_order
                && ((test (head_of now) && deletion_merges now) || walk_merges any_order test t s))) made
                ∙ sym (ap (λ n. merges || (any_order && walk_merges any_order test n now)) fewer)
                ∙ before.1,
            λ n. ap (λ r. r ++ kept_beside any_order test s2 (drop (i + 1) ps2)) (front_pos (omega arith))
                ∙ ap (λ r. take k ps ++ take 1 (drop i ps) ++ kept_beside any_order test s2 r) rest_pos
                ∙ append_assoc (take k ps) (take 1 (drop i ps)) (kept_beside any_order test s2 (drop 1 (drop i ps)))
                ∙ ap (λ r. take k ps ++ r) (kept_next now s2 (drop i ps) h made)
                ∙ before.2 n,
          )
