-- Each turn of the composition keeps what the text becomes.
use Rattle.std.proofs.Common.{◌≡◌, ℕ, ◌+◌, ◌-◌, ◌<◌, ◌≤◌, inl, inr, Bool, true, false, [], ◌∷◌}
use Rattle.std.proofs.Common.{◌++◌, length, get_or, take, drop, set, refl, sym, ap, ◌∙◌, subst, cond}
use Rattle.std.proofs.Common.{eqb, Option, Some, None, Result, Ok, Err, arith, length-append, length-drop}
use Rattle.std.proofs.Common.{append_assoc}
use Rattle.std.proofs.lemmas.Bool.{cond-true, cond-false, cases_eq, le-leb}
use Rattle.std.proofs.lemmas.Bool.{lt-leb, lt-ltb, le-ltb, eq-eqb, ne_eqb, and_from, and_left, and_right}
use Rattle.std.proofs.lemmas.List.{take-append-drop, take_at, drop_more, append-nil}
use Rattle.std.proofs.lemmas.List.{get_or-map, get_or-drop, map-append, take-map, drop-map, length-map, take-set}
use Rattle.std.proofs.lemmas.List.{get_or-set_same, drop-set-lt, take-append-le}
use Rattle.std.proofs.lemmas.List.{get_or_append_left, drop-append-le, drop_all}
use Rattle.std.proofs.lemmas.List.{get_or_at, nil_from_length}
use Rattle.std.specs.declared.alloc.AllocError.{AllocError}
use Rattle.rb_glyph.specs.declared.info.hb_glyph_info_t.{hb_glyph_info_t}
use Rattle.glyph_lists.specs.Clusters.{zero_glyph, IsCoarse}
use Rattle.shaping_buffer.specs.State.{State}
use Rattle.shaping_buffer.specs.ClusterStep.{any_order, both, head_of}
use Rattle.shaping_buffer.specs.Step.{Outcome, Meets, sync, with_id}
use Rattle.shaping_buffer.specs.Step.{clear_output}
use Rattle.glyph_laws.specs.Cores.{core, cores}
use Rattle.shaping_passes.specs.NormalizationOrder.{Classes, ReadsCores}
use Rattle.shaping_passes.specs.NormalizationDecomposition.{closed_over}
use Rattle.shaping_passes.specs.NormalizationComposition.{is_blocked, pair_of, composed_from, composed, so_far, IsReady}
use Rattle.shaping_passes.specs.NormalizationComposition.{kept_one, IsPlace, composed_at, composed_glyphs}
use Rattle.shaping_passes.specs.NormalizationComposition.{Pairs, PairsReadCores}
use Rattle.shaping_passes.proofs.NormalizationPairLemmas.{Glyphs, take_first, never_wants}
use Rattle.shaping_passes.proofs.NormalizationMergesLemmas.{on_none, carried}

-- ---- what the text becomes

module _ (pairs : Pairs) (classes : Classes) (alike : ReadsCores classes) (pairs_alike : PairsReadCores pairs) where
  from_paired : (starter : hb_glyph_info_t) (between : Glyphs) (g : hb_glyph_info_t) (l : Glyphs) (id : ℕ)
      → pair_of pairs classes starter between g ≡ Some id
      → composed_from pairs classes starter between (g ∷ l) ≡ composed_from pairs classes (with_id id starter) between l
  unfolding composed_from
  from_paired starter between g l id e =
      ap (λ (o : Option ℕ). elim o [
        | Some id ↦ composed_from pairs classes (with_id id starter) between l
        | None ↦ cond (eqb (classes g) 0) (starter ∷ between ++ composed_from pairs classes g [] l)
            (composed_from pairs classes starter (between ++ g ∷ []) l)
      ]) e

  from_kept : (starter : hb_glyph_info_t) (between : Glyphs) (g : hb_glyph_info_t) (l : Glyphs)
      → pair_of pairs classes starter between g ≡ None
      → composed_from pairs classes starter between (g ∷ l)
      ≡ cond (eqb (classes g) 0) (starter ∷ between ++ composed_from pairs classes g [] l)
      (composed_from pairs classes starter (between ++ g ∷ []) l)
  unfolding composed_from
  from_kept starter between g l e =
      ap (λ (o : Option ℕ). elim o [
        | Some id ↦ composed_from pairs classes (with_id id starter) between l
        | None ↦ cond (eqb (classes g) 0) (starter ∷ between ++ composed_from pairs classes g [] l)
            (composed_from pairs classes starter (between ++ g ∷ []) l)
      ]) e

  first_kept : (g : hb_glyph_info_t) (l : Glyphs)
      → composed pairs classes (g ∷ l)
      ≡ cond (eqb (classes g) 0) (composed_from pairs classes g [] l) (g ∷ composed pairs classes l)
  unfolding composed
  first_kept g l = refl

  module _ (out input : Glyphs) (some : 0 < length input) where
    abbrev h : hb_glyph_info_t
    h = get_or input 0 zero_glyph

    abbrev rest : Glyphs
    rest = drop 1 input

    opened_input : input ≡ h ∷ rest
    opened_input = drop_more input 0 zero_glyph some

    abbrev more : Glyphs
    more = out ++ h ∷ []

    -- what is put out behind the others, and is the last starter
    new_starter : so_far pairs classes (Some (length out)) more rest ≡ out ++ composed_from pairs classes h [] rest
    unfolding so_far
    new_starter =
        let long : length more ≡ length out + 1 = length-append out (h ∷ []) in
        let none : length out + 1 ≡ length more = omega arith in
        let past : drop (length out + 1) more ≡ [] = drop_all (length out + 1) more (omega arith) in
        ap (λ l. l ++ composed_from pairs classes (get_or more (length out) zero_glyph) (drop (length out + 1) more) rest)
        (take_at out (h ∷ []) (length out) refl)
        ∙ ap (λ g. out ++ composed_from pairs classes g (drop (length out + 1) more) rest)
        (get_or_at out h [] zero_glyph (length out) refl)
        ∙ ap (λ l. out ++ composed_from pairs classes h l rest) past

    pub first_starter : classes h ≡ 0
        → so_far pairs classes (Some (length out)) more rest ≡ so_far pairs classes None out input
    unfolding so_far
    first_starter e =
        new_starter
        ∙ ap (λ l. out ++ l) (sym (cond-true _ _ _ (eq-eqb (classes h) 0 e)) ∙ sym (first_kept h rest))
        ∙ ap (λ l. out ++ composed pairs classes l) (sym opened_input)

    pub mark_first : (classes h ≡ 0 → ⊥)
        → so_far pairs classes None more rest ≡ so_far pairs classes None out input
    unfolding so_far
    mark_first ne =
        append_assoc out (h ∷ []) (composed pairs classes rest)
        ∙ ap (λ l. out ++ l) (sym (cond-false _ _ _ (ne_eqb (classes h) 0 ne)) ∙ sym (first_kept h rest))
        ∙ ap (λ l. out ++ composed pairs classes l) (sym opened_input)

    module _ (at : ℕ) (place : at < length out) where
      abbrev starter : hb_glyph_info_t
      starter = get_or out at zero_glyph

      abbrev between : Glyphs
      between = drop (at + 1) out

      cut : take at out ++ starter ∷ between ≡ out
      cut = ap (λ l. take at out ++ l) (sym (drop_more out at zero_glyph place)) ∙ take-append-drop at out

      paired : (id : ℕ) → pair_of pairs classes starter between h ≡ Some id
          → so_far pairs classes (Some at) (set out at (with_id id starter)) rest ≡ so_far pairs classes (Some at) out input
      unfolding so_far
      paired id e =
          let g = with_id id starter in
          ap (λ l. l ++ composed_from pairs classes (get_or (set out at g) at zero_glyph) (drop (at + 1) (set out at g)) rest)
          (take-set out at g)
          ∙ ap (λ x. take at out ++ composed_from pairs classes x (drop (at + 1) (set out at g)) rest)
          (get_or-set_same out at g zero_glyph place)
          ∙ ap (λ l. take at out ++ composed_from pairs classes g l rest) (drop-set-lt (at + 1) out at g (omega arith))
          ∙ ap (λ l. take at out ++ l) (sym (from_paired starter between h rest id e))
          ∙ ap (λ l. take at out ++ composed_from pairs classes starter between l) (sym opened_input)

      pub next_starter : pair_of pairs classes starter between h ≡ None → classes h ≡ 0
          → so_far pairs classes (Some (length out)) more rest ≡ so_far pairs classes (Some at) out input
      unfolding so_far
      next_starter none e =
          new_starter
          ∙ ap (λ l. l ++ composed_from pairs classes h [] rest) (sym cut)
          ∙ append_assoc (take at out) (starter ∷ between) (composed_from pairs classes h [] rest)
          ∙ ap (λ l. take at out ++ l) (sym (cond-true _ _ _ (eq-eqb (classes h) 0 e))
          ∙ sym (from_kept starter between h rest none))
          ∙ ap (λ l. take at out ++ composed_from pairs classes starter between l) (sym opened_input)

      pub mark_kept : pair_of pairs classes starter between h ≡ None → (classes h ≡ 0 → ⊥)
          → so_far pairs classes (Some at) more rest ≡ so_far pairs classes (Some at) out input
      unfolding so_far
      mark_kept none ne =
          ap (λ l. l ++ composed_from pairs classes (get_or more at zero_glyph) (drop (at + 1) more) rest)
          (take-append-le at out (h ∷ []) (omega arith))
          ∙ ap (λ x. take at out ++ composed_from pairs classes x (drop (at + 1) more) rest)
          (get_or_append_left out (h ∷ []) zero_glyph at place)
          ∙ ap (λ l. take at out ++ composed_from pairs classes starter l rest)
          (drop-append-le (at + 1) out (h ∷ []) (omega arith))
          ∙ ap (λ l. take at out ++ l) (sym (cond-false _ _ _ (ne_eqb (classes h) 0 ne))
          ∙ sym (from_kept starter between h rest none))
          ∙ ap (λ l. take at out ++ composed_from pairs classes starter between l) (sym opened_input)

  -- ---- a character that is kept

  module _ (s : State) (some : 0 < length s.input) where
    abbrev O : Glyphs
    O = cores s.out

    abbrev I : Glyphs
    I = cores s.input

    some_core : 0 < length I
    some_core = omega (arith, length-map s.input core)

    kept_lists : (o : Option ℕ) → so_far pairs classes o (cores (kept_one s).out) (cores (kept_one s).input)
        ≡ so_far pairs classes o (O ++ get_or I 0 zero_glyph ∷ []) (drop 1 I)
    kept_lists o =
        ap (λ l. so_far pairs classes o l (cores (drop 1 s.input)))
        (map-append core s.out (take 1 s.input)
        ∙ ap (λ l. O ++ l) (sym (take-map core 1 s.input) ∙ take_first I some_core))
        ∙ ap (λ l. so_far pairs classes o (O ++ get_or I 0 zero_glyph ∷ []) l) (sym (drop-map core 1 s.input))

    class_head : classes (get_or I 0 zero_glyph) ≡ classes (head_of s)
    class_head = ap classes (get_or-map core s.input 0 zero_glyph zero_glyph some) ∙ alike (head_of s)

    head_core : get_or I 0 zero_glyph ≡ core (head_of s)
    head_core = get_or-map core s.input 0 zero_glyph zero_glyph some

    out_length : length s.out ≡ length O
    out_length = sym (length-map s.out core)

    kept_first : so_far pairs classes (cond (eqb (classes (head_of s)) 0) (Some (length s.out)) None)
        (cores (kept_one s).out) (cores (kept_one s).input) ≡ so_far pairs classes None O I
    kept_first = elim (cases_eq (classes (head_of s)) 0) [
      | inl e ↦ ap (λ o. so_far pairs classes o (cores (kept_one s).out) (cores (kept_one s).input))
          (cond-true _ _ _ (eq-eqb _ 0 e))
          ∙ kept_lists (Some (length s.out))
          ∙ ap (λ n. so_far pairs classes (Some n) (O ++ get_or I 0 zero_glyph ∷ []) (drop 1 I)) out_length
          ∙ first_starter O I some_core (class_head ∙ e)
      | inr ne ↦ ap (λ o. so_far pairs classes o (cores (kept_one s).out) (cores (kept_one s).input))
          (cond-false _ _ _ (ne_eqb _ 0 ne))
          ∙ kept_lists None ∙ mark_first O I some_core (λ e. ne (sym class_head ∙ e))
    ]

    kept_behind : (at : ℕ) → at < length s.out
        → pair_of pairs classes (get_or O at zero_glyph) (drop (at + 1) O) (core (head_of s)) ≡ None
        → so_far pairs classes (cond (eqb (classes (head_of s)) 0) (Some (length s.out)) (Some at))
        (cores (kept_one s).out) (cores (kept_one s).input) ≡ so_far pairs classes (Some at) O I
    kept_behind at place none =
        let at_core : at < length O = omega (arith, out_length) in
        let none_core = ap (pair_of pairs classes (get_or O at zero_glyph) (drop (at + 1) O)) head_core ∙ none in
        elim (cases_eq (classes (head_of s)) 0) [
          | inl e ↦ ap (λ o. so_far pairs classes o (cores (kept_one s).out) (cores (kept_one s).input))
              (cond-true _ _ _ (eq-eqb _ 0 e))
              ∙ kept_lists (Some (length s.out))
              ∙ ap (λ n. so_far pairs classes (Some n) (O ++ get_or I 0 zero_glyph ∷ []) (drop 1 I)) out_length
              ∙ next_starter O I some_core at at_core none_core (class_head ∙ e)
          | inr ne ↦ ap (λ o. so_far pairs classes o (cores (kept_one s).out) (cores (kept_one s).input))
              (cond-false _ _ _ (ne_eqb _ 0 ne))
              ∙ kept_lists (Some at) ∙ mark_kept O I some_core at at_core none_core (λ e. ne (sym class_head ∙ e))
        ]

    -- a character is kept behind no starter, or behind one
    pub same_first : (starter next : Option ℕ) (t : State) → starter ≡ None
        → next ≡ cond (eqb (classes (head_of s)) 0) (Some (length s.out)) None → t ≡ kept_one s
        → so_far pairs classes next (cores t.out) (cores t.input) ≡ so_far pairs classes starter O I
    same_first starter next t is behind kept = carried (λ (o : Option ℕ) (u : State). so_far pairs classes o (cores u.out) (cores u.input))
        is behind kept kept_first

    module _ (starter : Option ℕ) (at : ℕ) (is : starter ≡ Some at) (place : IsPlace starter s) where
      at_place : at < length s.out
      at_place = subst (λ (o : Option ℕ). IsPlace o s) is place

      pub same_kept : None ≡ pair_of pairs classes (get_or O at zero_glyph) (drop (at + 1) O) (core (head_of s))
          → (next : Option ℕ) (t : State)
          → next ≡ cond (eqb (classes (head_of s)) 0) (Some (length s.out)) (Some at) → t ≡ kept_one s
          → so_far pairs classes next (cores t.out) (cores t.input) ≡ so_far pairs classes starter O I
      same_kept none next t behind kept = carried (λ (o : Option ℕ) (u : State). so_far pairs classes o (cores u.out) (cores u.input))
          is behind kept (kept_behind at at_place (sym none))

      -- a pair is composed
      pub same_paired : (id : ℕ)
          → Some id ≡ pair_of pairs classes (get_or O at zero_glyph) (drop (at + 1) O) (core (head_of s)) → (t : State)
          → cores t.out ≡ set O at (with_id id (get_or O at zero_glyph)) → cores t.input ≡ drop 1 I
          → so_far pairs classes (Some at) (cores t.out) (cores t.input) ≡ so_far pairs classes starter O I
      same_paired id made t out input =
          ap (λ (l : Glyphs). so_far pairs classes (Some at) l (cores t.input)) out
          ∙ ap (λ (l : Glyphs). so_far pairs classes (Some at) (set O at (with_id id (get_or O at zero_glyph))) l) input
          ∙ paired O I some_core at (omega (arith, at_place, length-map s.out core)) id
          (ap (pair_of pairs classes (get_or O at zero_glyph) (drop (at + 1) O)) head_core ∙ sym made)
          ∙ ap (λ (o : Option ℕ). so_far pairs classes o O I) (sym is)

  -- ---- what is blocked

  module _ (out : Glyphs) (at : ℕ) (h : hb_glyph_info_t) (place : at < length out) where
    abbrev behind : Glyphs
    behind = drop (at + 1) (cores out)

    behind_long : length behind ≡ length out - (at + 1)
    behind_long = omega (arith, length-drop (at + 1) (cores out), length-map out core)

    last_class : at + 1 < length out
        → classes (get_or behind (length behind - 1) zero_glyph)
        ≡ classes (get_or out (length out - 1) zero_glyph)
    last_class more =
        let n : at + 1 + (length behind - 1) ≡ length out - 1 = omega (arith, behind_long) in
        ap classes (get_or-drop (at + 1) (cores out) (length behind - 1) zero_glyph
        ∙ ap (λ k. get_or (cores out) k zero_glyph) n
        ∙ get_or-map core out (length out - 1) zero_glyph zero_glyph (omega arith))
        ∙ alike (get_or out (length out - 1) zero_glyph)

    pub pair_blocked : at + 1 < length out
        → classes h ≤ classes (get_or out (length out - 1) zero_glyph)
        → pair_of pairs classes (get_or (cores out) at zero_glyph) behind (core h) ≡ None
    unfolding pair_of
    pair_blocked more high =
        cond-true _ _ _ (and_from _ _ (lt-ltb 0 (length behind) (omega (arith, behind_long)))
        (le-leb (classes (core h)) _ (omega (arith, alike h, last_class more))))

    pair_free : is_blocked classes behind (core h) ≡ false
        → pair_of pairs classes (get_or (cores out) at zero_glyph) behind (core h)
        ≡ pairs (get_or out at zero_glyph) h
    unfolding pair_of
    pair_free free =
        cond-false _ _ _ free
        ∙ ap (λ (g : hb_glyph_info_t). pairs g (core h)) (get_or-map core out at zero_glyph zero_glyph place)
        ∙ pairs_alike (get_or out at zero_glyph) h

    pub pair_next : length out ≤ at + 1
        → pair_of pairs classes (get_or (cores out) at zero_glyph) behind (core h)
        ≡ pairs (get_or out at zero_glyph) h
    pair_next near = pair_free (and_left _ _ (le-ltb 0 (length behind) (omega (arith, behind_long))))

    pub pair_low : at + 1 < length out
        → classes (get_or out (length out - 1) zero_glyph) < classes h
        → pair_of pairs classes (get_or (cores out) at zero_glyph) behind (core h)
        ≡ pairs (get_or out at zero_glyph) h
    pair_low more low =
        pair_free (and_right _ _ (lt-leb (classes (core h)) _ (omega (arith, alike h, last_class more))))

  -- ---- along the pass

  pub record Turns (old t : State) (starter : Option ℕ) : Type 0 where
    pub ready : IsReady t
    pub place : IsPlace starter t
    pub same : so_far pairs classes starter (cores t.out) (cores t.input) ≡ composed pairs classes (cores old.input)
    pub glyphs : composed_at (any_order old) pairs classes starter (length t.out) (length t.input) (both t)
        ≡ composed_glyphs (any_order old) pairs classes old.input
    pub merges : any_order old ≡ false → IsCoarse old.input → IsCoarse (both t)
    pub others : t ≡ record (clear_output old) { out = t.out; input = t.input; idx = t.idx }

  pub turns_begun : (old t : State) → t ≡ clear_output old → old.successful ≡ true → length old.input ≤ old.max_len
      → Turns old t None
  unfolding so_far
  turns_begun old t is successful within =
      subst (λ (x : State). Turns old x None) (sym is) (record {
        ready = record {
          opened = refl;
          successful = successful;
          in_place = refl;
          near = omega arith;
          within = omega arith;
        };
        place = tt;
        same = refl;
        glyphs = refl;
        merges = λ _ co. co;
        others = refl;
      })

  nothing_left : (starter : Option ℕ) (t : State) → IsPlace starter t
      → so_far pairs classes starter (cores t.out) [] ≡ cores t.out
  unfolding so_far composed composed_from
  nothing_left None t place = append-nil (cores t.out)
  nothing_left (Some at) t place = cut_at (cores t.out) at (omega (arith, length-map t.out core)) where
    cut_at : (l : Glyphs) (k : ℕ) → k < length l → take k l ++ get_or l k zero_glyph ∷ drop (k + 1) l ≡ l
    cut_at l k in_l = ap (λ x. take k l ++ x) (sym (drop_more l k zero_glyph in_l)) ∙ take-append-drop k l

  -- the output is closed
  module _ (old t : State) (starter : Option ℕ) (k : Turns old t starter) (none : length t.input ≡ 0) where
    empty : t.input ≡ []
    empty = nil_from_length t.input none

    whole : t.out ++ t.input ≡ t.out
    whole = ap (λ l. t.out ++ l) empty ∙ append-nil t.out

    synced : sync t ≡ record { done = true; state = closed_over (t.out ++ t.input) t }
    synced =
        cond-true _ _ _ k.ready.successful
        ∙ cond-true _ _ _ (le-leb (length (t.out ++ t.input)) t.max_len
        (omega (arith, length-append t.out t.input, k.ready.near, k.ready.within)))
        ∙ ap (λ p. record { done = true; state = record (closed_over (t.out ++ t.input) t) { positions = p } })
        (ap (λ (x : State). x.positions) k.others)

    pub last_state : (r : Result Bool AllocError) (new : State) → Meets (sync t) t r new → new ≡ closed_over t.out t
    last_state (Ok done) new meets =
        meets.1 ∙ ap (λ (o : Outcome). o.state) synced ∙ ap (λ l. closed_over l t) whole
    last_state (Err e) new meets =
        absurd (never_wants t.have_separate_output _ k.ready.in_place
        (ap (λ (o : Outcome). o.state.have_separate_output) synced) meets.0.1)

    pub last_cores : cores t.out ≡ composed pairs classes (cores old.input)
    last_cores =
        sym (nothing_left starter t k.place)
        ∙ ap (λ l. so_far pairs classes starter (cores t.out) (cores l)) (sym empty) ∙ k.same

    pub last_glyphs : t.out ≡ composed_glyphs (any_order old) pairs classes old.input
    last_glyphs =
        sym whole ∙ sym (on_none pairs classes alike pairs_alike (any_order old) starter (length t.out) (both t))
        ∙ ap (λ k. composed_at (any_order old) pairs classes starter (length t.out) k (both t)) (sym none)
        ∙ k.glyphs
