-- The forms of a text, one item after the other.
use Rattle.std.proofs.Common.{◌≡◌, ℕ, suc, ◌+◌, ◌<◌, ◌≤◌, List, [], ◌∷◌, ◌++◌, length, get_or, take, drop, set, refl, ap, sym, ◌∙◌}
use Rattle.std.proofs.Common.{◌-◌, arith}
use Rattle.std.proofs.lemmas.Bool.{cond_both}
use Rattle.std.proofs.lemmas.List.{take_more_set, drop-set-lt, drop_more, append_assoc, take_all, drop_all, append-nil, get_or-set_same}
use Rattle.glyph_lists.specs.Clusters.{clusters, zero_glyph}
use Rattle.rb_glyph.specs.declared.info.hb_glyph_info_t.{hb_glyph_info_t}
use Rattle.script_joining.specs.declared.joining.kind.JoiningType.{JoiningType}
use Rattle.script_joining.specs.declared.joining.form.ArabicAction.{ArabicAction}
use Rattle.script_items.specs.Item.{shaper_byte, with_shaper_byte}
use Rattle.script_joining.specs.Listed.{with_type}
use Rattle.script_joining.specs.Joining.{with_forms, first_letter, kind, nearest, form_between, number_of_form}
use Rattle.script_joining.specs.Joining.{formed_behind, is_mongolian_selector, selectors_formed, with_form_behind}

-- the list with forms in its first n items, and the types of the others still to be made forms
abbrev pub formed : JoiningType → ℕ → List hb_glyph_info_t → JoiningType → List hb_glyph_info_t
formed before n l beyond = take n l ++ with_forms before (drop n l) beyond

-- the form of the next item
abbrev pub next_form : JoiningType → ℕ → List hb_glyph_info_t → JoiningType → hb_glyph_info_t → hb_glyph_info_t
next_form before n l beyond g =
    with_shaper_byte (number_of_form (form_between before (kind g) (first_letter (drop (n + 1) l) beyond))) g

pub length-with_forms : (before beyond : JoiningType) (l : List hb_glyph_info_t) → length (with_forms before l beyond) ≡ length l
length-with_forms before beyond [] = refl
length-with_forms before beyond (g ∷ gs) = ap suc (length-with_forms (nearest (kind g) before) beyond gs)

-- nor is a type
pub with_type-cluster : (g : hb_glyph_info_t) → (with_type g).cluster ≡ g.cluster
unfolding with_type
with_type-cluster g = refl

-- a form is no cluster
pub clusters-with_forms : (before beyond : JoiningType) (l : List hb_glyph_info_t)
    → clusters (with_forms before l beyond) ≡ clusters l
clusters-with_forms before beyond [] = refl
clusters-with_forms before beyond (g ∷ gs) =
    ap (λ cs. g.cluster ∷ cs) (clusters-with_forms (nearest (kind g) before) beyond gs)

module _ (before beyond : JoiningType) (l : List hb_glyph_info_t) (n : ℕ) where
  -- one item more has its form
  formed_more : (x d : hb_glyph_info_t) → n < length l → x ≡ next_form before n l beyond (get_or l n d)
      → formed (nearest (kind (get_or l n d)) before) (n + 1) (set l n x) beyond ≡ formed before n l beyond
  formed_more x d h e =
      let next : JoiningType = nearest (kind (get_or l n d)) before in
      ap (λ xs. xs ++ with_forms next (drop (n + 1) (set l n x)) beyond) (take_more_set l n x h)
      ∙ ap (λ xs. (take n l ++ x ∷ []) ++ with_forms next xs beyond) (drop-set-lt (n + 1) l n x (omega arith))
      ∙ append_assoc (take n l) (x ∷ []) (with_forms next (drop (n + 1) l) beyond)
      ∙ ap (λ y. take n l ++ y ∷ with_forms next (drop (n + 1) l) beyond) e
      ∙ ap (λ xs. take n l ++ with_forms before xs beyond) (sym (drop_more l n d h))

  -- the same, as the loop finds the next type, the form and the number of that
  pub formed_step : (own next : JoiningType) (form : ArabicAction) (byte : ℕ) (x d : hb_glyph_info_t) → n < length l
      → own ≡ kind (get_or l n d) → form ≡ form_between before own (first_letter (drop (n + 1) l) beyond)
      → byte ≡ number_of_form form → x ≡ with_shaper_byte byte (get_or l n d) → next ≡ nearest own before
      → formed next (n + 1) (set l n x) beyond ≡ formed before n l beyond
  formed_step own next form byte x d h is_own is_form is_byte is_x is_next =
      let next_is : next ≡ nearest (kind (get_or l n d)) before = cc in
      ap (λ t. formed t (n + 1) (set l n x) beyond) next_is ∙ formed_more x d h (cc)

  -- all have their forms
  pub formed_all : length l ≤ n → formed before n l beyond ≡ l
  formed_all h =
      ap (λ xs. xs ++ with_forms before (drop n l) beyond) (take_all n l h)
      ∙ ap (λ xs. l ++ with_forms before xs beyond) (drop_all n l h) ∙ append-nil l

-- ---- Mongolian variation selectors, which keep the form of what stands before them

with_form_behind-cluster : (form : ℕ) (g : hb_glyph_info_t) → (with_form_behind form g).cluster ≡ g.cluster
unfolding with_form_behind
with_form_behind-cluster form g =
    cond_both (is_mongolian_selector g.glyph_id) _ g (λ (h : hb_glyph_info_t). h.cluster ≡ g.cluster) (λ _. refl) (λ _. refl)

clusters-formed_behind : (before : hb_glyph_info_t) (l : List hb_glyph_info_t) → clusters (formed_behind before l) ≡ clusters l
clusters-formed_behind before [] = refl
clusters-formed_behind before (g ∷ gs) =
    let h = with_form_behind (shaper_byte before) g in
    ap (λ (c : ℕ). c ∷ clusters (formed_behind h gs)) (with_form_behind-cluster (shaper_byte before) g)
    ∙ ap (λ (cs : List ℕ). g.cluster ∷ cs) (clusters-formed_behind h gs)

pub clusters-selectors_formed : (l : List hb_glyph_info_t) → clusters (selectors_formed l) ≡ clusters l
clusters-selectors_formed [] = refl
clusters-selectors_formed (g ∷ gs) = ap (λ (cs : List ℕ). g.cluster ∷ cs) (clusters-formed_behind g gs)

length-formed_behind : (before : hb_glyph_info_t) (l : List hb_glyph_info_t) → length (formed_behind before l) ≡ length l
length-formed_behind before [] = refl
length-formed_behind before (g ∷ gs) = ap suc (length-formed_behind (with_form_behind (shaper_byte before) g) gs)

pub length-selectors_formed : (l : List hb_glyph_info_t) → length (selectors_formed l) ≡ length l
length-selectors_formed [] = refl
length-selectors_formed (g ∷ gs) = ap suc (length-formed_behind g gs)

pub append-formed_behind-first : (l : List hb_glyph_info_t)
    → take 1 l ++ formed_behind (get_or l 0 zero_glyph) (drop 1 l) ≡ selectors_formed l
append-formed_behind-first [] = refl
append-formed_behind-first (g ∷ gs) = refl

-- one item more has its form
pub append-formed_behind-more : (l new : List hb_glyph_info_t) (n : ℕ) → 0 < n → n < length l
    → new ≡ set l n (with_form_behind (shaper_byte (get_or l (n - 1) zero_glyph)) (get_or l n zero_glyph))
    → take (n + 1) new ++ formed_behind (get_or new (n + 1 - 1) zero_glyph) (drop (n + 1) new)
    ≡ take n l ++ formed_behind (get_or l (n - 1) zero_glyph) (drop n l)
append-formed_behind-more l new n some in_l is =
    let before = get_or l (n - 1) zero_glyph in
    let x = with_form_behind (shaper_byte before) (get_or l n zero_glyph) in
    let rest = drop (n + 1) l in
    let at : n + 1 - 1 ≡ n = omega arith in
    let last : get_or new (n + 1 - 1) zero_glyph ≡ x =
    ap (λ (i : ℕ). get_or new i zero_glyph) at ∙ ap (λ (xs : List hb_glyph_info_t). get_or xs n zero_glyph) is
    ∙ get_or-set_same l n x zero_glyph in_l in
    let front : take (n + 1) new ≡ take n l ++ x ∷ [] = ap (take (n + 1)) is ∙ take_more_set l n x in_l in
    let behind : drop (n + 1) new ≡ rest = ap (drop (n + 1)) is ∙ drop-set-lt (n + 1) l n x (omega arith) in
    ap (λ (xs : List hb_glyph_info_t). xs ++ formed_behind (get_or new (n + 1 - 1) zero_glyph) (drop (n + 1) new)) front
    ∙ ap (λ (g : hb_glyph_info_t). (take n l ++ x ∷ []) ++ formed_behind g (drop (n + 1) new)) last
    ∙ ap (λ (xs : List hb_glyph_info_t). (take n l ++ x ∷ []) ++ formed_behind x xs) behind
    ∙ append_assoc (take n l) (x ∷ []) (formed_behind x rest)
    ∙ ap (λ (xs : List hb_glyph_info_t). take n l ++ formed_behind before xs) (sym (drop_more l n zero_glyph in_l))

-- all have theirs
pub append-formed_behind-all : (l : List hb_glyph_info_t) (n : ℕ) → length l ≤ n
    → take n l ++ formed_behind (get_or l (n - 1) zero_glyph) (drop n l) ≡ l
append-formed_behind-all l n past =
    let before = get_or l (n - 1) zero_glyph in
    ap (λ (xs : List hb_glyph_info_t). xs ++ formed_behind before (drop n l)) (take_all n l past)
    ∙ ap (λ (xs : List hb_glyph_info_t). l ++ formed_behind before xs) (drop_all n l past) ∙ append-nil l
