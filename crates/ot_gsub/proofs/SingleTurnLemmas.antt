-- A turn of a lookup of single substitutions: what is decided, and what comes of it in the storage of the input.
use Rattle.std.proofs.Common.{◌≡◌, ℕ, ◌+◌, ◌-◌, ◌≤◌, Bool, true, false, List, [], ◌∷◌, ◌++◌, length, take, drop, All}
use Rattle.std.proofs.Common.{Option, None, Some, Result, Ok, Err, refl, sym, ap, subst, ◌∙◌, inl, inr, arith, length-append}
use Rattle.std.proofs.lemmas.Bool.{cond-true, cond-false, cond_both, le-leb, le-ltb, eqb-true, false≢true}
use Rattle.std.proofs.lemmas.List.{append-nil, length-take-le}
use Rattle.std.proofs.lemmas.List.Elements.{All-head, All-tail}
use Rattle.std.specs.Option.{option_or, option_map}
use Rattle.std.specs.Prelude.{nat_le, nat_lt, is_some, if◌then◌else◌, ◌==◌, ◌&&◌, ◌||◌}
use Rattle.std.specs.declared.alloc.AllocError.{AllocError}
use Rattle.rb_glyph.specs.declared.flag_sets.TheConstants.BufferFlags.{PRODUCE_UNSAFE_TO_CONCAT}
use Rattle.rb_glyph.specs.declared.info.hb_glyph_info_t.{hb_glyph_info_t}
use Rattle.font_tables.specs.declared.coverage.Coverage.{Coverage}
use Rattle.ot_substitution.specs.FirstEdit.{IsFirstEdit}
use Rattle.ot_substitution.specs.Substitution.{cursor_glyph}
use Rattle.ot_lookups.specs.LookupProps.{glyph_at}
use Rattle.ot_lookups.specs.SubtableKinds.{is_single}
use Rattle.ot_lookups.specs.declared.lookup_list.Lookup.{Lookup}
use Rattle.ot_layout.specs.declared.search.Reach.{Reach}
use Rattle.ot_layout.specs.declared.search.ApplyContext.{ApplyContext}
use Rattle.ot_lookups.specs.declared.subtable.Subtable.{Subtable}
use Rattle.ot_substitution.specs.declared.substitution.Edit.{Edit}
use Rattle.ot_substitution.specs.declared.substitution.Edit.TheVariants.{Replace}
use Rattle.ot_layout.specs.declared.skipping_iterator.LookupOptions.{LookupOptions}
use Rattle.shaping_buffer.specs.State.{State, len}
use Rattle.shaping_buffer.specs.ClusterStep.{asks}
use Rattle.shaping_buffer.specs.Step.{Outcome, limited, next_glyphs, settled, unlimited, with_id}
use Rattle.ot_gsub.specs.Edits.{Gives, in_class, replace, set_class}
use Rattle.ot_gsub.specs.Nested.{Applies, Now}
use Rattle.ot_gsub.specs.Singles.{IsLevel, first_single, single_of}
use Rattle.ot_gsub.specs.Turn.{Comes, IsDecided, IsMade, IsTurn, mark_beyond, mark_reach, subtables}
use Rattle.ot_gsub.proofs.EditsLemmas.{state-limited}
use Rattle.ot_gsub.specs.declared.nested.Step.{Step}
use Rattle.ot_gsub.specs.declared.nested.Step.TheVariants.{Applied, Passed}
use Rattle.ot_gsub.specs.declared.properties.Way.TheVariants.{Replaced}
use Rattle.ot_gsub.specs.declared.substitution.Substitutions.{Substitutions}

-- ---- what is decided

none_from : (o : Option ℕ) → None ≡ option_map Replace o → o ≡ None
none_from None e = refl
none_from (Some x) e = cc

first_of_two : (o p : Option ℕ) (edit : Option Edit) → is_some edit ≡ true → edit ≡ option_map Replace o
    → edit ≡ option_map Replace (option_or o p)
first_of_two None p edit some is = absurd (false≢true (sym (ap is_some is) ∙ some))
first_of_two (Some x) p edit some is = is

first_is : (coverages : List Coverage) (options : LookupOptions) (ctx : ApplyContext) (nested : Bool) (l : List Subtable)
    (places : List ℕ) (edit : Option Edit) → All (λ (t : Subtable). is_single t.kind ≡ true) l
    → IsFirstEdit coverages options ctx nested l places edit → edit ≡ option_map Replace (first_single l (cursor_glyph ctx).glyph_id)
first_is coverages options ctx nested [] places edit all is = is
first_is coverages options ctx nested (t ∷ l) places edit all is =
    let glyph = (cursor_glyph ctx).glyph_id in
    let kind = All-head (λ (x : Subtable). is_single x.kind ≡ true) t l all in
    elim is [
      | inl w ↦ first_of_two (single_of t glyph) (first_single l glyph) edit w.0 (w.1.singles kind)
      | inr w ↦
          let none : single_of t glyph ≡ None = none_from (single_of t glyph) (w.0.singles kind) in
          first_is coverages options ctx nested l places edit (All-tail (λ (x : Subtable). is_single x.kind ≡ true) t l all) w.1
          ∙ ap (λ o. option_map Replace (option_or o (first_single l glyph))) (sym none)
    ]

-- the edit of a lookup of single substitutions
edit_is : (substitutions : Substitutions) (lookup : Lookup) (nested : Bool) (s : State) (places : List ℕ) (edit : Option Edit)
    → All (λ (t : Subtable). is_single t.kind ≡ true) (subtables substitutions lookup)
    → IsDecided substitutions lookup nested s places edit
    → edit ≡ option_map Replace (first_single (subtables substitutions lookup) (glyph_at s.input 0).glyph_id)
edit_is substitutions lookup nested s places edit all d =
    first_is _ _ d.ctx nested (subtables substitutions lookup) places edit all d.first
    ∙ ap (λ (l : List hb_glyph_info_t). option_map Replace
    (first_single (subtables substitutions lookup) (glyph_at l 0).glyph_id)) d.are.input

-- ---- steps in the storage of the input

mark_reach-unmarked : (reach : Reach) (s : State) → asks PRODUCE_UNSAFE_TO_CONCAT s ≡ false → mark_reach reach s ≡ s
mark_reach-unmarked reach s unmarked =
    cond_both ((reach.to == 0) && nat_le (length s.out) reach.from) _ _ (λ (t : State). t ≡ s) (λ _. refl)
    (λ _. cond-false _ _ _ unmarked)

mark_beyond-unmarked : (rest : ℕ) (s : State) → asks PRODUCE_UNSAFE_TO_CONCAT s ≡ false → mark_beyond rest s ≡ s
mark_beyond-unmarked rest s unmarked =
    cond_both (nat_lt rest (len s - s.idx)) _ _ (λ (t : State). t ≡ s) (λ _. cond-false _ _ _ unmarked) (λ _. refl)

pub settled_level : (after : State) → after.have_separate_output ≡ false → length after.out ≤ after.idx
    → settled after ≡ after
settled_level after stored within =
    ap (λ b. record after { have_separate_output = b })
    (ap (λ b. b || nat_lt after.idx (length after.out)) stored ∙ le-ltb after.idx (length after.out) within ∙ sym stored)

limited_fits : (held : ℕ) (s after : State) → held ≤ s.max_len
    → limited held s after ≡ record { done = true; state = settled after }
limited_fits held s after fits = cond-true _ _ _ (le-leb held s.max_len fits)

-- an output in the storage of the input
abbrev pub stored : State → List hb_glyph_info_t → List hb_glyph_info_t → ℕ → State
stored b o l i =
    record b { have_output = true; have_separate_output = false; out = o; input = l; idx = i }

pub stored_is : (s : State) → IsLevel s → s ≡ stored s s.out s.input s.idx
stored_is s is =
    ap (λ h. record s { have_output = h }) is.opened
    ∙ ap (λ p. record s { have_output = true; have_separate_output = p }) is.stored

replaced_stored : (gdef : List ℕ) (glyph : ℕ) (b : State) (o : List hb_glyph_info_t) (x : hb_glyph_info_t)
    (xs : List hb_glyph_info_t) (i : ℕ) → length o ≡ i → length o + 1 ≤ b.max_len
    → replace gdef glyph (stored b o (x ∷ xs) i)
    ≡ record { done = true; state = stored b (o ++ with_id glyph (in_class gdef glyph Replaced 0 x) ∷ []) xs (i + 1) }
replaced_stored gdef glyph b o x xs i level fits =
    let y = with_id glyph (in_class gdef glyph Replaced 0 x) in
    let long : length (o ++ y ∷ []) ≡ length o + 1 = length-append o (y ∷ []) in
    limited_fits (length (o ++ y ∷ [])) (set_class gdef glyph Replaced 0 (stored b o (x ∷ xs) i))
    (stored b (o ++ y ∷ []) xs (i + 1)) (omega (arith, long))
    ∙ ap (λ (t : State). record { done = true; state = t })
    (settled_level (stored b (o ++ y ∷ []) xs (i + 1)) refl (omega (arith, long)))

-- so many glyphs are put out as they are
pub state-next_stored : (n : ℕ) (b : State) (o l : List hb_glyph_info_t) (i : ℕ) → length o ≡ i → n ≤ length l
    → (next_glyphs n (stored b o l i)).done ≡ true
    → (next_glyphs n (stored b o l i)).state ≡ stored b (o ++ take n l) (drop n l) (i + n)
state-next_stored n b o l i level within done =
    state-limited (length (o ++ take n l)) (stored b o l i) (stored b (o ++ take n l) (drop n l) (i + n)) done
    ∙ settled_level (stored b (o ++ take n l) (drop n l) (i + n)) refl
    (omega (arith, length-append o (take n l), length-take-le n l within))

-- or none are
pub on_stored : (n : ℕ) (b : State) (o l : List hb_glyph_info_t) (i : ℕ) (new : State) → length o ≡ i → n ≤ length l
    → Gives (if n == 0 then unlimited (stored b o l i) else next_glyphs n (stored b o l i)) true new
    → new ≡ stored b (o ++ take n l) (drop n l) (i + n)
on_stored n b o l i new level within =
    cond_both (n == 0) _ _ (λ (out : Outcome). Gives out true new → new ≡ stored b (o ++ take n l) (drop n l) (i + n))
    (λ none g.
    let zero_is : n ≡ 0 = eqb-true n 0 none in
    g.state ∙ ap (λ z. stored b z l i) (sym (append-nil o))
    ∙ ap (λ k. stored b (o ++ []) l k) (omega arith)
    ∙ ap (λ k. stored b (o ++ take k l) (drop k l) (i + 0)) (sym zero_is)
    ∙ ap (λ k. stored b (o ++ take n l) (drop n l) (i + k)) (sym zero_is))
    (λ _ g. g.state ∙ state-next_stored n b o l i level within (sym g.answer))

-- ---- a turn

-- what has come of a turn at a glyph, by the glyph that is to come into its place
abbrev pub Turned : Substitutions → State → List hb_glyph_info_t → hb_glyph_info_t → List hb_glyph_info_t → ℕ
    → Result Step AllocError → State → Option ℕ → Type 0
Turned substitutions b o x xs i result new None = (result ≡ Ok Passed) × (new ≡ stored b o (x ∷ xs) i)
Turned substitutions b o x xs i result new (Some glyph) =
    (result ≡ Ok Applied)
    × (new ≡ stored b (o ++ with_id glyph (in_class substitutions.gdef.now.table.now glyph Replaced 0 x) ∷ []) xs (i + 1))

module _ (substitutions : Substitutions) (b : State) (o : List hb_glyph_info_t) (x : hb_glyph_info_t)
    (xs : List hb_glyph_info_t) (i : ℕ) (level : length o ≡ i) (fits : length o + 1 ≤ b.max_len)
    (unmarked : asks PRODUCE_UNSAFE_TO_CONCAT b ≡ false) (applies : Applies) (random left : ℕ) (new : Now) where
  abbrev gdef : List ℕ
  gdef = substitutions.gdef.now.table.now

  abbrev s : State
  s = stored b o (x ∷ xs) i

  abbrev at_left : ℕ → Now
  at_left n = record { buffer = s; random = random; left = n }

  applied : (glyph : ℕ) (places : List ℕ) (n : ℕ) (step : Step)
      → Comes applies gdef places (Replace glyph) (at_left n) step new
      → Turned substitutions b o x xs i (Ok step) new.buffer (Some glyph)
  applied glyph places n step m =
      let after : State = stored b (o ++ with_id glyph (in_class gdef glyph Replaced 0 x) ∷ []) xs (i + 1) in
      let is = replaced_stored gdef glyph b o x xs i level fits in
      let yes : m.done ≡ true = m.edited.0 ∙ ap (λ (p : Outcome). p.done) is in
      let at : m.mid.buffer ≡ after = ap (λ (y : Now). y.buffer) m.edited.1 ∙ ap (λ (p : Outcome). p.state) is in
      let is_new : new ≡ record m.mid { buffer = mark_beyond (len s - s.idx) m.mid.buffer } = m.state ∙ cond-true _ _ _ yes in (
        ap (λ (t : Step). Ok t) (m.answer ∙ cond-true _ _ _ yes),
        ap (λ (y : Now). y.buffer) is_new ∙ ap (mark_beyond (len s - s.idx)) at
            ∙ mark_beyond-unmarked (len s - s.idx) after unmarked,
      )

  made : (result : Result Step AllocError) (glyph : Option ℕ) (places : List ℕ) (n : ℕ)
      → IsMade applies gdef places (option_map Replace glyph) (at_left n) result new
      → Turned substitutions b o x xs i result new.buffer glyph
  made result None places n m = (m.0, ap (λ (y : Now). y.buffer) m.1)
  made (Err e) (Some glyph) places n m = absurd (false≢true m)
  made (Ok step) (Some glyph) places n m = applied glyph places n step m

  pub turned : (lookup : Lookup) (nested : Bool) (result : Result Step AllocError)
      → All (λ (t : Subtable). is_single t.kind ≡ true) (subtables substitutions lookup)
      → IsTurn applies substitutions lookup nested (at_left left) result new
      → Turned substitutions b o x xs i result new.buffer (first_single (subtables substitutions lookup) x.glyph_id)
  turned lookup nested result all t =
      made result (first_single (subtables substitutions lookup) x.glyph_id) t.places t.left
      (subst (λ (m : State). IsMade applies gdef t.places
      (option_map Replace (first_single (subtables substitutions lookup) x.glyph_id)) (record (at_left t.left) { buffer = m }) result new)
      (mark_reach-unmarked t.reach s unmarked)
      (subst (λ (e : Option Edit). IsMade applies gdef t.places e
      (record (at_left t.left) { buffer = mark_reach t.reach s }) result new)
      (edit_is substitutions lookup nested s t.places t.edit all t.decided) t.made))
