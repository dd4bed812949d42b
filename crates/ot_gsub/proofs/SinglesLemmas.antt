-- A text under a lookup of single substitutions, from a turn of it and the glyphs after it that it is not for.
use Rattle.std.proofs.Common.{◌≡◌, ◌⊎◌, ℕ, zero, suc, ◌+◌, ◌-◌, ◌<◌, ◌≤◌, Bool, true, false, List, [], ◌∷◌, ◌++◌, length, map, take, drop, All}
use Rattle.std.proofs.Common.{Option, None, Some, Result, Ok, Err, IfOk, refl, sym, ap, subst, ◌∙◌, inl, inr, arith, append_assoc, length-append, length-drop}
use Rattle.std.proofs.lemmas.Bool.{cond-true, cond-false}
use Rattle.std.proofs.lemmas.List.{append-nil, drop-drop, drop_all, get_or-drop, length-map, length-take-le, map-append, take-append-drop, take_all}
use Rattle.std.proofs.lemmas.List.Elements.{All-head}
use Rattle.std.proofs.Math.Seq.{take-add}
use Rattle.std.specs.Int.Bits.{and_zero_r}
use Rattle.std.specs.Prelude.{not, ◌==◌, ◌&&◌}
use Rattle.std.specs.declared.alloc.AllocError.{AllocError}
use Rattle.rb_glyph.specs.declared.flag_sets.TheConstants.BufferFlags.{PRODUCE_UNSAFE_TO_CONCAT}
use Rattle.rb_glyph.specs.declared.info.hb_glyph_info_t.{hb_glyph_info_t}
use Rattle.ot_lookups.specs.Lookup.{is_for}
use Rattle.ot_lookups.specs.SubtableKinds.{is_single}
use Rattle.ot_lookups.specs.declared.subtable_kind.SubtableKind.{SubtableKind}
use Rattle.ot_lookups.specs.declared.subtable_kind.SubtableKind.TheVariants.{ReverseSubstitution}
use Rattle.glyph_digests.specs.Digest.{may_have}
use Rattle.glyph_digests.specs.FirstGlyphs.{may_have_first}
use Rattle.ot_lookups.specs.LookupProps.{glyph_at, passes_over, share}
use Rattle.ot_lookups.specs.declared.lookup_list.Lookup.{Lookup}
use Rattle.ot_lookups.specs.declared.subtable.Subtable.{Subtable}
use Rattle.shaping_buffer.specs.State.{State, len}
use Rattle.shaping_buffer.specs.ClusterStep.{asks}
use Rattle.shaping_buffer.specs.Step.{Meets, Outcome, limited, sync}
use Rattle.ot_gsub.specs.Singles.{GoesOn, HasMoved, IsForNext, IsLevel, IsSingle, IsSubstituted, first_single, give_way, is_reverse, moved, opened_at, starts_reverse, substituted}
use Rattle.ot_gsub.specs.Nested.{Applies, Now, now_of}
use Rattle.ot_gsub.specs.Turn.{IsTurn, IsTurnAt, subtables}
use Rattle.ot_gsub.proofs.EditsLemmas.{state-limited}
use Rattle.ot_gsub.specs.declared.nested.Step.{Step}
use Rattle.ot_gsub.specs.declared.nested.Step.TheVariants.{Applied, Passed, Refused}
use Rattle.ot_gsub.specs.declared.substitution.Progress.{Progress}
use Rattle.ot_gsub.specs.declared.substitution.Substitutions.{Substitutions}
use Rattle.ot_gsub.proofs.SingleTurnLemmas.{Turned, on_stored, settled_level, stored, stored_is, turned}

-- ---- glyphs that a lookup is not for

module _ (substitutions : Substitutions) (lookup : Lookup) where
  abbrev f : hb_glyph_info_t → hb_glyph_info_t
  f = substituted substitutions lookup

  abbrev takes : hb_glyph_info_t → Bool
  takes = is_for lookup substitutions.options.mask

  pub substituted-passed : (g : hb_glyph_info_t) → takes g ≡ false → f g ≡ g
  unfolding substituted
  substituted-passed g passed = cond-false _ _ _ passed

  pub substituted-taken : (g : hb_glyph_info_t) → takes g ≡ true → f g
      ≡ give_way substitutions.gdef.now.table.now g (first_single (subtables substitutions lookup) g.glyph_id)
  unfolding substituted
  substituted-taken g taken = cond-true _ _ _ taken

  pub take-same : (n : ℕ) (l : List hb_glyph_info_t) → ((k : ℕ) → k < n → f (glyph_at l k) ≡ glyph_at l k)
      → map f (take n l) ≡ take n l
  take-same zero l same = refl
  take-same (suc n) [] same = refl
  take-same (suc n) (x ∷ l) same =
      ap (λ y. y ∷ map f (take n l)) (same 0 (omega arith))
      ∙ ap (λ ys. x ∷ ys) (take-same n l (λ k h. same (suc k) (omega arith)))

  pub moved-moved : (m n : ℕ) (s : State) → moved f n (moved f m s) ≡ moved f (m + n) s
  moved-moved m n s =
      let l = s.input in
      ap (λ (o : List hb_glyph_info_t). record s { out = o; input = drop n (drop m l); idx = s.idx + m + n })
      (append_assoc s.out (map f (take m l)) (map f (take n (drop m l)))
      ∙ ap (λ ys. s.out ++ ys) (sym (map-append f (take m l) (take n (drop m l))))
      ∙ ap (λ ys. s.out ++ map f ys) (sym (take-add m n l)))
      ∙ ap (λ (r : List hb_glyph_info_t). record (moved f (m + n) s) { input = r; idx = s.idx + m + n }) (drop-drop n m l)
      ∙ ap (λ i. record (moved f (m + n) s) { idx = i }) (omega arith)

glyph_at-drop : (m n : ℕ) (l : List hb_glyph_info_t) → glyph_at (drop m l) n ≡ glyph_at l (m + n)
glyph_at-drop m n l = get_or-drop m l n _

pub len_closed : (s : State) → s.have_output ≡ false → len s ≡ length s.input
len_closed s shut = cond-false _ _ _ shut

single_not_reverse : (k : SubtableKind) → is_single k ≡ true → is_reverse k ≡ false
single_not_reverse ReverseSubstitution single = cc
single_not_reverse _ single = refl

pub not_reverse : (l : List Subtable) → All (λ (t : Subtable). is_single t.kind ≡ true) l → starts_reverse l ≡ false
not_reverse [] all = refl
not_reverse (t ∷ l) all = single_not_reverse t.kind (All-head (λ (x : Subtable). is_single x.kind ≡ true) t l all)

pub and_false : (a : Bool) → (a && false) ≡ false
and_false true = refl
and_false false = refl

-- a feature with no bit is for no glyph
pub is_for-no_mask : (lookup : Lookup) (mask : ℕ) (g : hb_glyph_info_t) → mask ≡ 0 → is_for lookup mask g ≡ false
is_for-no_mask lookup mask g none =
    let apart : share g.mask mask ≡ false =
    ap (λ k. share g.mask k) none ∙ ap (λ k. not (k == 0)) (and_zero_r g.mask) in
    ap (λ b. may_have lookup.digest g.glyph_id && b && not (passes_over lookup.lookup_props g)
    && may_have_first lookup.firsts g.glyph_id) apart
    ∙ ap (λ b. b && not (passes_over lookup.lookup_props g) && may_have_first lookup.firsts g.glyph_id)
    (and_false (may_have lookup.digest g.glyph_id))

pub err_is_no_answer : (r : Result Bool AllocError) (e : AllocError) → r ≡ Ok true → r ≡ Err e → ⊥
err_is_no_answer r e is was = cc

pub false_is_no_answer : (r : Result Bool AllocError) → r ≡ Ok true → r ≡ Ok false → ⊥
false_is_no_answer r is was = cc

-- ---- a turn, and what is passed over after it

module _ (substitutions : Substitutions) (lookup : Lookup) where
  abbrev of : hb_glyph_info_t → hb_glyph_info_t
  of = substituted substitutions lookup

  abbrev is_taken : hb_glyph_info_t → Bool
  is_taken = is_for lookup substitutions.options.mask

  behind_applied : (b : State) (o : List hb_glyph_info_t) (x y : hb_glyph_info_t) (xs : List hb_glyph_info_t) (i : ℕ)
      (new1 new2 : State) → length o ≡ i → of x ≡ y → new1 ≡ stored b (o ++ y ∷ []) xs (i + 1)
      → GoesOn lookup substitutions.options.mask 0 new1 true new2
      → HasMoved substitutions lookup 1 (stored b o (x ∷ xs) i) new2
  behind_applied b o x y xs i new1 new2 level is at goes =
      let g = subst (λ (t : State). GoesOn lookup substitutions.options.mask 0 t true new2) at goes in
      let n = g.count in
      let same : map of (take n xs) ≡ take n xs =
      take-same substitutions lookup n xs
      (λ k h. substituted-passed substitutions lookup (glyph_at xs k) (g.passed k (omega arith) h)) in
      let state = on_stored n b (o ++ y ∷ []) xs (i + 1) new2 (length-append o (y ∷ []) ∙ ap (λ k. k + 1) level) g.within
      g.gives in
      record {
        count = suc n;
        from = omega arith;
        within = omega (arith, g.within);
        state = state
            ∙ ap (λ (z : List hb_glyph_info_t). stored b z (drop n xs) (i + 1 + n))
            (append_assoc o (y ∷ []) (take n xs) ∙ ap (λ (z : hb_glyph_info_t). o ++ z ∷ take n xs) (sym is)
            ∙ ap (λ (zs : List hb_glyph_info_t). o ++ of x ∷ zs) (sym same))
            ∙ ap (λ k. stored b (o ++ of x ∷ map of (take n xs)) (drop n xs) k) (omega arith);
        at = λ lt. g.at (omega arith);
      }

  same_from_second : (x : hb_glyph_info_t) (xs : List hb_glyph_info_t) (n : ℕ) → of x ≡ x
      → ((k : ℕ) → 1 ≤ k → k < n → is_taken (glyph_at (x ∷ xs) k) ≡ false) → (k : ℕ) → k < n
      → of (glyph_at (x ∷ xs) k) ≡ glyph_at (x ∷ xs) k
  same_from_second x xs n is passed zero h = is
  same_from_second x xs n is passed (suc k) h =
      substituted-passed substitutions lookup (glyph_at xs k) (passed (suc k) (omega arith) h)

  behind_passed : (b : State) (o : List hb_glyph_info_t) (x : hb_glyph_info_t) (xs : List hb_glyph_info_t) (i : ℕ)
      (new1 new2 : State) → length o ≡ i → of x ≡ x → new1 ≡ stored b o (x ∷ xs) i
      → GoesOn lookup substitutions.options.mask 1 new1 true new2
      → HasMoved substitutions lookup 1 (stored b o (x ∷ xs) i) new2
  behind_passed b o x xs i new1 new2 level is at goes =
      let g = subst (λ (t : State). GoesOn lookup substitutions.options.mask 1 t true new2) at goes in
      let n = g.count in
      let same : map of (take n (x ∷ xs)) ≡ take n (x ∷ xs) =
      take-same substitutions lookup n (x ∷ xs)
      (same_from_second x xs n is (λ k up h. g.passed k (omega arith) h)) in
      record {
        count = n;
        from = omega (arith, g.from);
        within = g.within;
        state = on_stored n b o (x ∷ xs) i new2 level g.within g.gives
            ∙ ap (λ (zs : List hb_glyph_info_t). stored b (o ++ zs) (drop n (x ∷ xs)) (i + n)) (sym same);
        at = g.at;
      }

  -- by its answer, a turn leaves the output in its storage, and what is passed over then leads on
  abbrev pub LeadsOn : State → Result Step AllocError → State → Type 0
  LeadsOn s result new1 =
      (new1.have_separate_output ≡ false)
      × (((result ≡ Ok Passed) × ((new2 : State) → GoesOn lookup substitutions.options.mask 1 new1 true new2
      → HasMoved substitutions lookup 1 s new2))
      ⊎ ((result ≡ Ok Applied) × ((new2 : State) → GoesOn lookup substitutions.options.mask 0 new1 true new2
      → HasMoved substitutions lookup 1 s new2)))

  leads_by : (b : State) (o : List hb_glyph_info_t) (x : hb_glyph_info_t) (xs : List hb_glyph_info_t) (i : ℕ)
      (result : Result Step AllocError) (new1 : State) (glyph : Option ℕ) → length o ≡ i
      → of x ≡ give_way substitutions.gdef.now.table.now x glyph
      → Turned substitutions b o x xs i result new1 glyph → LeadsOn (stored b o (x ∷ xs) i) result new1
  leads_by b o x xs i result new1 None level is t = (
    ap (λ (s : State). s.have_separate_output) t.1,
    inl (t.0, λ new2. behind_passed b o x xs i new1 new2 level is t.1),
  )
  leads_by b o x xs i result new1 (Some glyph) level is t = (
    ap (λ (s : State). s.have_separate_output) t.1,
    inr (t.0, λ new2. behind_applied b o x _ xs i new1 new2 level is t.1),
  )

  leads_at : (b : State) (o l : List hb_glyph_info_t) (i : ℕ) (applies : Applies) (nested : Bool) (random left : ℕ)
      (result : Result Step AllocError) (new : Now) → length o ≡ i → i + length l ≤ b.max_len → 0 < length l
      → IsSingle substitutions lookup b → is_taken (glyph_at l 0) ≡ true
      → IsTurn applies substitutions lookup nested (record { buffer = stored b o l i; random = random; left = left }) result new
      → LeadsOn (stored b o l i) result new.buffer
  leads_at b o [] i applies nested random left result new level fits some single taken t = absurd (omega (arith, some))
  leads_at b o (x ∷ xs) i applies nested random left result new level fits some single taken t =
      leads_by b o x xs i result new.buffer (first_single (subtables substitutions lookup) x.glyph_id) level
      (substituted-taken substitutions lookup x taken)
      (turned substitutions b o x xs i level (omega (arith, fits, level)) single.unmarked applies random left new lookup nested
      result single.kinds t)

  pub leads_on : (s : State) (applies : Applies) (nested : Bool) (random left : ℕ) (result : Result Step AllocError) (new : Now)
      → IsLevel s → IsSingle substitutions lookup s → IsForNext substitutions lookup s → 0 < length s.input
      → IsTurn applies substitutions lookup nested (record { buffer = s; random = random; left = left }) result new
      → LeadsOn s result new.buffer
  leads_on s applies nested random left result new is single next some t =
      let e = stored_is s is in
      let all : len s ≡ s.idx + length s.input = cond-true _ _ _ is.opened in
      subst (λ (x : State). LeadsOn x result new.buffer) (sym e)
      (leads_at s s.out s.input s.idx applies nested random left result new is.level (omega (arith, all, is.within)) some single
      (next some)
      (subst
      (λ (x : State). IsTurn applies substitutions lookup nested (record { buffer = x; random = random; left = left }) result new)
      e t))

  -- the same from the answer of a turn in which lookups may apply others 64 levels deep
  pub leads_by_turn : (s : State) (p : Progress) (told result : Result Step AllocError) (new : Now) → IsLevel s
      → IsSingle substitutions lookup s → IsForNext substitutions lookup s → 0 < length s.input → told ≡ result
      → IsTurnAt 64 substitutions lookup (now_of s p) told new → LeadsOn s result new.buffer
  leads_by_turn s p told result new is single next some was turn =
      leads_on s _ _ _ _ result new is single next some
      (subst (λ (r : Result Step AllocError). IsTurnAt 64 substitutions lookup (now_of s p) r new) was turn)

  -- the answer of what is passed over, in the storage of the input
  abbrev Goes : ℕ → State → Result Bool AllocError → State → Type 0
  Goes start new1 result new2 = IfOk result (λ done. GoesOn lookup substitutions.options.mask start new1 done new2)

  pub next_by_applied : (s new1 : State) (result : Result Bool AllocError) (new2 : State) → LeadsOn s (Ok Applied) new1
      → (new1.have_separate_output ≡ false → result ≡ Ok true) → Goes 0 new1 result new2
      → (result ≡ Ok true) × HasMoved substitutions lookup 1 s new2
  next_by_applied s new1 result new2 leads done goes =
      let is = done leads.0 in
      let at = subst (λ (r : Result Bool AllocError). Goes 0 new1 r new2) is goes in
      elim leads.1 [ inl w ↦ absurd (let no = w.0 in cc) | inr w ↦ (is, w.1 new2 at) ]

  pub next_by_passed : (s new1 : State) (result : Result Bool AllocError) (new2 : State) → LeadsOn s (Ok Passed) new1
      → (new1.have_separate_output ≡ false → result ≡ Ok true) → Goes 1 new1 result new2
      → (result ≡ Ok true) × HasMoved substitutions lookup 1 s new2
  next_by_passed s new1 result new2 leads done goes =
      let is = done leads.0 in
      let at = subst (λ (r : Result Bool AllocError). Goes 1 new1 r new2) is goes in
      elim leads.1 [ inl w ↦ (is, w.1 new2 at) | inr w ↦ absurd (let no = w.0 in cc) ]

  -- no other answer comes
  pub no_refusal : (s new1 : State) → LeadsOn s (Ok Refused) new1 → ⊥
  no_refusal s new1 leads = elim leads.1 [ inl w ↦ (let no = w.0 in cc) | inr w ↦ (let no = w.0 in cc) ]

  pub no_error : (s new1 : State) (e : AllocError) → LeadsOn s (Err e) new1 → ⊥
  no_error s new1 e leads = elim leads.1 [ inl w ↦ (let no = w.0 in cc) | inr w ↦ (let no = w.0 in cc) ]

  -- ---- turns

  pub moves_none : (s : State) → IsForNext substitutions lookup s → HasMoved substitutions lookup 0 s s
  moves_none s next =
      let place : s.idx ≡ s.idx + 0 = omega arith in
      record {
        count = 0;
        from = omega arith;
        within = omega arith;
        state = ap (λ (o : List hb_glyph_info_t). record s { out = o }) (sym (append-nil s.out))
            ∙ ap (λ k. record s { out = s.out ++ []; idx = k }) place;
        at = next;
      }

  pub moves_more : (t : ℕ) (s b c : State) → HasMoved substitutions lookup t s b → HasMoved substitutions lookup 1 b c
      → HasMoved substitutions lookup (t + 1) s c
  moves_more t s b c first second =
      let m = first.count in
      let n = second.count in
      let left : b.input ≡ drop m s.input = ap (λ (x : State). x.input) first.state in
      let long : length b.input ≡ length s.input - m = ap length left ∙ length-drop m s.input in
      record {
        count = m + n;
        from = omega (arith, first.from, second.from);
        within = omega (arith, first.within, second.within);
        state = second.state ∙ ap (moved of n) first.state ∙ moved-moved substitutions lookup m n s;
        at = λ lt. ap is_taken (sym (ap (λ (l : List hb_glyph_info_t). glyph_at l n) left ∙ glyph_at-drop m n s.input))
            ∙ second.at (omega (arith, first.within));
      }

  pub level_moved : (t : ℕ) (s b : State) → IsLevel s → HasMoved substitutions lookup t s b → IsLevel b
  level_moved t s b is moves =
      let m = moves.count in
      let all : len s ≡ s.idx + length s.input = cond-true _ _ _ is.opened in
      let there : len (moved of m s) ≡ s.idx + m + length (drop m s.input) = cond-true _ _ _ is.opened in
      subst IsLevel (sym moves.state) (record {
        opened = is.opened;
        stored = is.stored;
        level = length-append s.out (map of (take m s.input))
            ∙ omega (arith, is.level, length-map (take m s.input) of, length-take-le m s.input moves.within);
        within = omega (arith, all, there, is.within, moves.within, length-drop m s.input);
      })

  pub single_moved : (t : ℕ) (s b : State) → IsSingle substitutions lookup s → HasMoved substitutions lookup t s b
      → IsSingle substitutions lookup b
  single_moved t s b is moves =
      record {
        kinds = is.kinds;
        unmarked = ap (λ (x : State). asks PRODUCE_UNSAFE_TO_CONCAT x) moves.state ∙ is.unmarked;
      }

  pub next_moved : (t : ℕ) (s b : State) → HasMoved substitutions lookup t s b → IsForNext substitutions lookup b
  next_moved t s b moves some =
      let m = moves.count in
      let left : b.input ≡ drop m s.input = ap (λ (x : State). x.input) moves.state in
      let zero_on : m + 0 ≡ m = omega arith in
      ap is_taken (ap (λ (l : List hb_glyph_info_t). glyph_at l 0) left ∙ glyph_at-drop m 0 s.input
      ∙ ap (glyph_at s.input) zero_on)
      ∙ moves.at (omega (arith, some, ap length left, length-drop m s.input))

  -- ---- the whole text

  all_same : (l : List hb_glyph_info_t) → ((k : ℕ) → k < length l → is_taken (glyph_at l k) ≡ false) → map of l ≡ l
  all_same l none =
      ap (map of) (sym (take_all (length l) l (omega arith)))
      ∙ take-same substitutions lookup (length l) l
      (λ k h. substituted-passed substitutions lookup (glyph_at l k) (none k h))
      ∙ take_all (length l) l (omega arith)

  -- it is for no glyph
  pub for_none : (s : State) → ((k : ℕ) → k < length s.input → is_taken (glyph_at s.input k) ≡ false)
      → IsSubstituted substitutions (Some lookup) s (Ok true) s
  for_none s none = record { answer = refl; input = sym (all_same s.input none); others = refl }

  -- the output is opened, and the first glyphs are put out
  pub opened_level : (n : ℕ) (s : State) → n ≤ length s.input → length s.input ≤ s.max_len → IsLevel (opened_at n s)
  opened_level n s within fits = record {
    opened = refl;
    stored = refl;
    level = length-take-le n s.input within;
    within = omega (arith, length-drop n s.input);
  }

  pub opened_next : (n : ℕ) (s : State) → (n < length s.input → is_taken (glyph_at s.input n) ≡ true)
      → IsForNext substitutions lookup (opened_at n s)
  opened_next n s at some =
      let none : n + 0 ≡ n = omega arith in
      ap is_taken (glyph_at-drop n 0 s.input ∙ ap (glyph_at s.input) none)
      ∙ at (omega (arith, some, length-drop n s.input))

  pub opened_single : (n : ℕ) (s : State) → IsSingle substitutions lookup s → IsSingle substitutions lookup (opened_at n s)
  opened_single n s is = record { kinds = is.kinds; unmarked = is.unmarked }

  pub opened_single_at : (n : ℕ) (s b : State) → b ≡ opened_at n s → IsSingle substitutions lookup s
      → IsSingle substitutions lookup b
  opened_single_at n s b at is = subst (IsSingle substitutions lookup) (sym at) (opened_single n s is)

  -- and the rest is done from there
  pub rest_moved : (n : ℕ) (s b : State) (told : Result Bool AllocError) (end : State) → b ≡ opened_at n s
      → s.have_output ≡ false → len s ≤ s.max_len → n ≤ length s.input
      → (n < length s.input → is_taken (glyph_at s.input n) ≡ true) → IsSingle substitutions lookup s
      → (IsSingle substitutions lookup b → IsLevel b → IsForNext substitutions lookup b
      → (told ≡ Ok true) × (end ≡ moved of (length b.input) b))
      → (told ≡ Ok true) × (end ≡ moved of (length (drop n s.input)) (opened_at n s))
  rest_moved n s b told end at shut fits within some single done =
      let long : length s.input ≤ s.max_len = omega (arith, fits, len_closed s shut) in
      let is = done (opened_single_at n s b at single) (subst IsLevel (sym at) (opened_level n s within long))
      (subst (IsForNext substitutions lookup) (sym at) (opened_next n s some)) in
      (is.0, is.1 ∙ ap (λ (o : State). moved of (length o.input) o) at)

  -- what the closed buffer has
  abbrev closed : State → State
  closed b =
      record b { have_output = false; have_separate_output = false; out = []; input = b.out ++ b.input; idx = 0 }

  sync_is : (b : State) → b.successful ≡ true → (sync b).done ≡ true → (sync b).state ≡ closed b
  sync_is b good done =
      let e : sync b ≡ limited (length (b.out ++ b.input)) b (closed b) = cond-true _ _ _ good in
      ap (λ (o : Outcome). o.state) e
      ∙ state-limited (length (b.out ++ b.input)) b (closed b) (sym (ap (λ (o : Outcome). o.done) e) ∙ done)
      ∙ settled_level (closed b) refl (omega arith)

  whole : (n : ℕ) (l : List hb_glyph_info_t) → ((k : ℕ) → k < n → is_taken (glyph_at l k) ≡ false)
      → take n l ++ map of (take (length (drop n l)) (drop n l)) ++ drop (length (drop n l)) (drop n l) ≡ map of l
  whole n l none =
      let r = drop n l in
      let first : map of (take n l) ≡ take n l =
      take-same substitutions lookup n l
      (λ k h. substituted-passed substitutions lookup (glyph_at l k) (none k h)) in
      ap (λ (z : List hb_glyph_info_t). take n l ++ map of (take (length r) r) ++ z)
      (drop_all (length r) r (omega arith))
      ∙ append-nil (take n l ++ map of (take (length r) r))
      ∙ ap (λ (z : List hb_glyph_info_t). take n l ++ map of z) (take_all (length r) r (omega arith))
      ∙ ap (λ (z : List hb_glyph_info_t). z ++ map of r) (sym first)
      ∙ sym (map-append of (take n l) r) ∙ ap (map of) (take-append-drop n l)

  -- the output is closed after the last turn
  pub synced : (n : ℕ) (s b : State) (new : State) (result : Result Bool AllocError)
      → ((k : ℕ) → k < n → is_taken (glyph_at s.input k) ≡ false)
      → s.have_output ≡ false → s.have_separate_output ≡ false → s.out ≡ [] → s.successful ≡ true
      → b ≡ moved of (length (drop n s.input)) (opened_at n s)
      → result ≡ Ok b.successful → Meets (sync b) b result new
      → IsSubstituted substitutions (Some lookup) s result new
  synced n s b new result none shut plain empty good is answer meets =
      let good_b : b.successful ≡ true = ap (λ (x : State). x.successful) is ∙ good in
      let yes : result ≡ Ok true = answer ∙ ap (λ (d : Bool). Ok d) good_b in
      let met = subst (λ (r : Result Bool AllocError). Meets (sync b) b r new) yes meets in
      let at : new ≡ closed (moved of (length (drop n s.input)) (opened_at n s)) =
      met.1 ∙ sync_is b good_b (sym met.0) ∙ ap closed is in
      record {
        answer = yes;
        input = ap (λ (x : State). x.input) at ∙ whole n s.input none;
        others = at
            ∙ ap (λ h. record (closed (moved of (length (drop n s.input)) (opened_at n s))) { have_output = h }) (sym shut)
            ∙ ap (λ p. record s { have_separate_output = p; out = []; input = (closed (moved of (length (drop n s.input)) (opened_at n s))).input; idx = 0; positions = None })
            (sym plain)
            ∙ ap (λ (o : List hb_glyph_info_t). record s { out = o; input = (closed (moved of (length (drop n s.input)) (opened_at n s))).input; idx = 0; positions = None })
            (sym empty)
            ∙ ap (λ (x : State). record s { input = x.input; idx = x.idx; positions = x.positions }) (sym at);
      }
