-- Each turn of the composition keeps what the whole list becomes, with its clusters.
use Rattle.std.proofs.Common.{◌≡◌, ℕ, zero, suc, ◌+◌, ◌-◌, ◌<◌, Bool, [], ◌∷◌, ◌++◌, length, get_or, take, drop}
use Rattle.std.proofs.Common.{refl, sym, ap, ◌∙◌, subst, cond, eqb, leb, ltb, ◌&&◌, Option, Some, None, arith, length-append, length-drop}
use Rattle.std.proofs.Common.{length-take, length-set, append_assoc, set}
use Rattle.std.proofs.lemmas.Bool.{cond_both}
use Rattle.std.proofs.lemmas.List.{length-map, get_or-map, get_or_append_left, drop-map, drop-append-le, take_at}
use Rattle.std.proofs.lemmas.List.{get_or-append-add, take-append-drop}
use Rattle.rb_glyph.specs.declared.info.hb_glyph_info_t.{hb_glyph_info_t}
use Rattle.glyph_lists.specs.Clusters.{zero_glyph, IsMonotone}
use Rattle.glyph_lists.specs.Parts.{part}
use Rattle.shaping_buffer.specs.State.{State}
use Rattle.shaping_buffer.specs.ClusterStep.{both, head_of}
use Rattle.shaping_buffer.specs.Step.{with_id}
use Rattle.glyph_laws.specs.Cores.{core, cores}
use Rattle.shaping_passes.specs.NormalizationOrder.{Classes, ReadsCores}
use Rattle.shaping_passes.specs.NormalizationComposition.{is_blocked, pair_of, kept_one, pair_composed, starter_behind}
use Rattle.shaping_passes.specs.NormalizationComposition.{composed_at, composed_glyphs, Pairs, PairsReadCores, IsPlace}
use Rattle.shaping_passes.proofs.NormalizationPairLemmas.{Glyphs, order_composed, length_composed}

-- ---- two sides as one list

module _ (out input : Glyphs) where
  at_out : (at : ℕ) → at < length out → get_or (out ++ input) at zero_glyph ≡ get_or out at zero_glyph
  at_out at place = get_or_append_left out input zero_glyph at place

  at_head : get_or (out ++ input) (length out) zero_glyph ≡ get_or input 0 zero_glyph
  at_head =
      let n : length out ≡ length out + 0 = omega arith in
      ap (λ k. get_or (out ++ input) k zero_glyph) n ∙ get_or-append-add out input 0 zero_glyph

  between_out : (at : ℕ) → at < length out → part (out ++ input) (at + 1) (length out) ≡ drop (at + 1) out
  between_out at place =
      ap (take (length out - (at + 1))) (drop-append-le (at + 1) out input (omega arith))
      ∙ take_at (drop (at + 1) out) input (length out - (at + 1)) (length-drop (at + 1) out)

length-kept_one : (s : State) → 0 < length s.input → length (kept_one s).out ≡ length s.out + 1
length-kept_one s some = omega (arith, length-append s.out (take 1 s.input), length-take 1 s.input)

both_kept : (s : State) → both (kept_one s) ≡ both s
both_kept s =
    append_assoc s.out (take 1 s.input) (drop 1 s.input) ∙ ap (λ (l : Glyphs). s.out ++ l) (take-append-drop 1 s.input)

-- what reads a buffer and its last starter reads the same before and after one more character is kept
pub carried : {A : Type 0} (f : Option ℕ → State → A) {s t : State} {starter before next behind : Option ℕ} → starter ≡ before
    → next ≡ behind → t ≡ kept_one s → f behind (kept_one s) ≡ f before s → f next t ≡ f starter s
carried f {s = s} {t = t} {behind = behind} is after kept same =
    ap (λ o. f o t) after ∙ ap (f behind) kept ∙ same ∙ ap (λ o. f o s) (sym is)

module _ (pairs : Pairs) (classes : Classes) (alike : ReadsCores classes) (pairs_alike : PairsReadCores pairs) where
  -- ---- clusters and masks do not matter to a pair

  last_core : (l : Glyphs) (k : ℕ) → classes (get_or (cores l) k zero_glyph) ≡ classes (get_or l k zero_glyph)
  last_core [] k = refl
  last_core (g ∷ l) zero = alike g
  last_core (g ∷ l) (suc k) = last_core l k

  blocked_cores : (between : Glyphs) (g : hb_glyph_info_t)
      → is_blocked classes (cores between) (core g) ≡ is_blocked classes between g
  blocked_cores [] g = refl
  blocked_cores (b ∷ between) g =
      let long = length-map between core in
      let long_all : length (cores (b ∷ between)) ≡ length (b ∷ between) = length-map (b ∷ between) core in
      let n : length (cores (b ∷ between)) - 1 ≡ length (b ∷ between) - 1 = omega arith in
      let last : classes (get_or (cores (b ∷ between)) (length (cores (b ∷ between)) - 1) zero_glyph)
      ≡ classes (get_or (b ∷ between) (length (b ∷ between) - 1) zero_glyph) =
      ap (λ k. classes (get_or (cores (b ∷ between)) k zero_glyph)) n
      ∙ last_core (b ∷ between) (length (b ∷ between) - 1) in
      ap (λ k. ltb 0 (length (cores (b ∷ between))) && leb k
      (classes (get_or (cores (b ∷ between)) (length (cores (b ∷ between)) - 1) zero_glyph))) (alike g)
      ∙ ap (λ k. ltb 0 k && leb (classes g)
      (classes (get_or (cores (b ∷ between)) (length (cores (b ∷ between)) - 1) zero_glyph))) long_all
      ∙ ap (λ k. ltb 0 (length (b ∷ between)) && leb (classes g) k) last

  pair_cores : (out : Glyphs) (at : ℕ) (h : hb_glyph_info_t) → at < length out
      → pair_of pairs classes (get_or (cores out) at zero_glyph) (drop (at + 1) (cores out)) (core h)
      ≡ pair_of pairs classes (get_or out at zero_glyph) (drop (at + 1) out) h
  unfolding pair_of
  pair_cores out at h place =
      ap (λ l. pair_of pairs classes (get_or (cores out) at zero_glyph) l (core h)) (drop-map core (at + 1) out)
      ∙ ap (λ (g : hb_glyph_info_t). pair_of pairs classes g (cores (drop (at + 1) out)) (core h))
      (get_or-map core out at zero_glyph zero_glyph place)
      ∙ ap (λ b. cond b None (pairs (core (get_or out at zero_glyph)) (core h))) (blocked_cores (drop (at + 1) out) h)
      ∙ ap (λ (o : Option ℕ). cond (is_blocked classes (drop (at + 1) out) h) None o)
      (pairs_alike (get_or out at zero_glyph) h)

  -- ---- one turn over the whole list

  on_pair : (any : Bool) (at n more : ℕ) (l : Glyphs) (id : ℕ)
      → pair_of pairs classes (get_or l at zero_glyph) (part l (at + 1) n) (get_or l n zero_glyph) ≡ Some id
      → composed_at any pairs classes (Some at) n (suc more) l
      ≡ composed_at any pairs classes (Some at) n more (pair_composed any at n id l)
  unfolding composed_at
  on_pair any at n more l id e =
      ap (λ (o : Option ℕ). elim o [
        | Some id ↦ composed_at any pairs classes (Some at) n more (pair_composed any at n id l)
        | None ↦ composed_at any pairs classes (starter_behind classes (Some at) n l) (n + 1) more l
      ]) e

  on_kept : (any : Bool) (at n more : ℕ) (l : Glyphs)
      → pair_of pairs classes (get_or l at zero_glyph) (part l (at + 1) n) (get_or l n zero_glyph) ≡ None
      → composed_at any pairs classes (Some at) n (suc more) l
      ≡ composed_at any pairs classes (starter_behind classes (Some at) n l) (n + 1) more l
  unfolding composed_at
  on_kept any at n more l e =
      ap (λ (o : Option ℕ). elim o [
        | Some id ↦ composed_at any pairs classes (Some at) n more (pair_composed any at n id l)
        | None ↦ composed_at any pairs classes (starter_behind classes (Some at) n l) (n + 1) more l
      ]) e

  on_first : (any : Bool) (n more : ℕ) (l : Glyphs) → composed_at any pairs classes None n (suc more) l
      ≡ composed_at any pairs classes (starter_behind classes None n l) (n + 1) more l
  unfolding composed_at
  on_first any n more l = refl

  pub on_none : (any : Bool) (starter : Option ℕ) (n : ℕ) (l : Glyphs) → composed_at any pairs classes starter n 0 l ≡ l
  unfolding composed_at
  on_none any None n l = refl
  on_none any (Some at) n l = refl

  -- ---- clusters stay in order

  -- the last starter, if any, stands before this place
  Before : Option ℕ → ℕ → Type 0
  Before None n = Unit {0}
  Before (Some at) n = at < n

  before_more : (o : Option ℕ) (k : ℕ) → Before o k → Before o (k + 1)
  unfolding Before
  before_more None k b = tt
  before_more (Some at) k b = omega arith

  before_behind : (starter : Option ℕ) (n : ℕ) (l : Glyphs) → Before starter n
      → Before (starter_behind classes starter n l) (n + 1)
  unfolding Before
  before_behind starter n l h =
      cond_both (eqb (classes (get_or l n zero_glyph)) 0) _ _ (λ (o : Option ℕ). Before o (n + 1))
      (λ _. omega arith) (λ _. before_more starter n h)

  by_pair : (any : Bool) (at n more : ℕ) (l : Glyphs)
      → ((id : ℕ) → IsMonotone (composed_at any pairs classes (Some at) n more (pair_composed any at n id l)))
      → IsMonotone (composed_at any pairs classes (starter_behind classes (Some at) n l) (n + 1) more l) → (o : Option ℕ)
      → IsMonotone (elim o [
        | Some id ↦ composed_at any pairs classes (Some at) n more (pair_composed any at n id l)
        | None ↦ composed_at any pairs classes (starter_behind classes (Some at) n l) (n + 1) more l
      ])
  by_pair any at n more l made kept None = kept
  by_pair any at n more l made kept (Some id) = made id

  order_at : (any : Bool) (more : ℕ) (starter : Option ℕ) (n : ℕ) (l : Glyphs) → Before starter n → length l ≡ n + more
      → IsMonotone l → IsMonotone (composed_at any pairs classes starter n more l)
  unfolding composed_at Before
  order_at any zero starter n l before long mono = subst IsMonotone (sym (on_none any starter n l)) mono
  order_at any (suc more) None n l before long mono =
      order_at any more (starter_behind classes None n l) (n + 1) l (before_behind None n l before) (omega arith) mono
  order_at any (suc more) (Some at) n l before long mono =
      by_pair any at n more l
      (λ id. order_at any more (Some at) n (pair_composed any at n id l) before
      (length_composed any at n id l before (omega arith) ∙ omega arith)
      (order_composed any at n id l before (omega arith) mono))
      (order_at any more (starter_behind classes (Some at) n l) (n + 1) l (before_behind (Some at) n l before) (omega arith)
      mono)
      (pair_of pairs classes (get_or l at zero_glyph) (part l (at + 1) n) (get_or l n zero_glyph))

  pub order_kept : (any : Bool) (l : Glyphs) → IsMonotone l → IsMonotone (composed_glyphs any pairs classes l)
  unfolding Before
  order_kept any l mono = order_at any (length l) None 0 l tt (omega arith) mono

  -- ---- one turn of the buffer

  module _ (any : Bool) (s : State) (some : 0 < length s.input) where
    abbrev n : ℕ
    n = length s.out

    abbrev whole : Glyphs
    whole = both s

    one_more : length s.input ≡ suc (length s.input - 1)
    one_more = omega arith

    pair_both : (at : ℕ) → at < n
        → pair_of pairs classes (get_or whole at zero_glyph) (part whole (at + 1) n) (get_or whole n zero_glyph)
        ≡ pair_of pairs classes (get_or (cores s.out) at zero_glyph) (drop (at + 1) (cores s.out)) (core (head_of s))
    pair_both at place =
        ap (λ (g : hb_glyph_info_t). pair_of pairs classes g (part whole (at + 1) n) (get_or whole n zero_glyph))
        (at_out s.out s.input at place)
        ∙ ap (λ l. pair_of pairs classes (get_or s.out at zero_glyph) l (get_or whole n zero_glyph))
        (between_out s.out s.input at place)
        ∙ ap (λ (g : hb_glyph_info_t). pair_of pairs classes (get_or s.out at zero_glyph) (drop (at + 1) s.out) g)
        (at_head s.out s.input)
        ∙ sym (pair_cores s.out at (head_of s) place)

    abbrev at_now : Option ℕ → State → Glyphs
    at_now starter t = composed_at any pairs classes starter (length t.out) (length t.input) (both t)

    abbrev behind : Option ℕ → Option ℕ
    behind starter = cond (eqb (classes (head_of s)) 0) (Some n) starter

    kept_lists : (starter : Option ℕ) → at_now (behind starter) (kept_one s)
        ≡ composed_at any pairs classes (starter_behind classes starter n whole) (n + 1) (length s.input - 1) whole
    kept_lists starter =
        ap (λ k. composed_at any pairs classes (behind starter) k (length (kept_one s).input) (both (kept_one s)))
        (length-kept_one s some)
        ∙ ap (λ k. composed_at any pairs classes (behind starter) (n + 1) k (both (kept_one s))) (length-drop 1 s.input)
        ∙ ap (λ l. composed_at any pairs classes (behind starter) (n + 1) (length s.input - 1) l) (both_kept s)
        ∙ ap (λ (g : hb_glyph_info_t). composed_at any pairs classes (cond (eqb (classes g) 0) (Some n) starter)
        (n + 1) (length s.input - 1) whole)
        (sym (at_head s.out s.input))

    -- a character is kept, and there is no starter
    pub glyphs_first : (starter next : Option ℕ) (t : State) → starter ≡ None → next ≡ behind None → t ≡ kept_one s
        → at_now next t ≡ at_now starter s
    glyphs_first starter next t is after kept =
        carried at_now is after kept
        (kept_lists None ∙ sym (on_first any n (length s.input - 1) whole)
        ∙ ap (λ k. composed_at any pairs classes None n k whole) (sym one_more))

    module _ (starter : Option ℕ) (at : ℕ) (is : starter ≡ Some at) (place : IsPlace starter s) where
      at_place : at < n
      at_place = subst (λ (o : Option ℕ). IsPlace o s) is place

      -- a character is kept behind a starter
      pub glyphs_kept : None ≡ pair_of pairs classes (get_or (cores s.out) at zero_glyph) (drop (at + 1) (cores s.out)) (core (head_of s))
          → (next : Option ℕ) (t : State) → next ≡ behind (Some at) → t ≡ kept_one s → at_now next t ≡ at_now starter s
      glyphs_kept none next t after kept =
          carried at_now is after kept
          (kept_lists (Some at)
          ∙ sym (on_kept any at n (length s.input - 1) whole (pair_both at at_place ∙ sym none))
          ∙ ap (λ k. composed_at any pairs classes (Some at) n k whole) (sym one_more))

      -- a pair is composed
      pub glyphs_paired : (id : ℕ)
          → Some id ≡ pair_of pairs classes (get_or (cores s.out) at zero_glyph) (drop (at + 1) (cores s.out)) (core (head_of s))
          → (t : State) → cores t.out ≡ set (cores s.out) at (with_id id (get_or (cores s.out) at zero_glyph))
          → cores t.input ≡ drop 1 (cores s.input) → both t ≡ pair_composed any at n id whole
          → at_now (Some at) t ≡ at_now starter s
      glyphs_paired id made t out input glyphs =
          let out_long : length t.out ≡ n = omega (
            arith,
            ap length out,
            length-map t.out core,
            length-map s.out core,
            length-set (cores s.out) at (with_id id (get_or (cores s.out) at zero_glyph)),
          ) in
          let in_long : length t.input ≡ length s.input - 1 = omega (
            arith,
            ap length input,
            length-map t.input core,
            length-map s.input core,
            length-drop 1 (cores s.input),
          ) in
          ap (λ k. composed_at any pairs classes (Some at) k (length t.input) (both t)) out_long
          ∙ ap (λ k. composed_at any pairs classes (Some at) n k (both t)) in_long
          ∙ ap (λ l. composed_at any pairs classes (Some at) n (length s.input - 1) l) glyphs
          ∙ sym (on_pair any at n (length s.input - 1) whole id (pair_both at at_place ∙ sym made))
          ∙ ap (λ k. composed_at any pairs classes (Some at) n k whole) (sym one_more)
          ∙ ap (λ (o : Option ℕ). at_now o s) (sym is)
