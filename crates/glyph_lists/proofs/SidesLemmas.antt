-- Two lists as one, the one behind the other.
use Rattle.std.proofs.Common.{◌≡◌, ℕ, ◌+◌, ◌-◌, ◌≤◌, List, ◌++◌, length, take, drop, min, refl, sym, ap, ◌∙◌, arith}
use Rattle.std.proofs.Common.{append_assoc, Bool, true, false}
use Rattle.std.proofs.lemmas.List.{drop-drop}
use Rattle.std.proofs.lemmas.Bool.{cond-true, cond-false, lt-ltb, le-ltb}
use Rattle.std.proofs.Math.Seq.{take-append_seam, drop-append_seam, take-append-add, drop-append-add, take-add}
use Rattle.glyph_lists.specs.Parts.{map_range, on_part, part}
use Rattle.rb_glyph.specs.declared.info.hb_glyph_info_t.{hb_glyph_info_t}
use Rattle.glyph_lists.specs.Clusters.{run_merge}
use Rattle.glyph_lists.specs.Marks.{mark}
use Rattle.glyph_lists.specs.Deletion.{merge_or_mark}
use Rattle.glyph_lists.specs.declared.glyph_flags.TheConstants.{BREAK_BITS}
use Rattle.glyph_lists.proofs.PartsLemmas.{map_range-append, map_range_none, map_range_past, map_range_cut}
use Rattle.glyph_lists.proofs.PartsLemmas.{length-map_range}
use Rattle.glyph_lists.proofs.MergesLemmas.{run_merge_short}

-- a range that ends past the list, or at its end
pub map_range-cut : {X : Type 0} (f : X → X) (xs : List X) (a b n : ℕ) → length xs ≡ n → a ≤ b → a ≤ n
    → map_range f xs a (min b n) ≡ map_range f xs a b
map_range-cut f xs a b n h up h2 = ap (λ k. map_range f xs a (min b k)) (sym h) ∙ map_range_cut f xs a b (omega arith)

-- ---- a list that is cut where the first of two ends

-- a list that nothing changed
pub same_out : {X : Type 0} (out rest l : List X) → l ≡ out ++ rest → out ≡ take (length out) l
same_out out rest l e = sym (ap (take (length out)) e ∙ take-append_seam out rest)

pub same_input : {X : Type 0} (out rest l : List X) → l ≡ out ++ rest → rest ≡ drop (length out) l
same_input out rest l e = sym (ap (drop (length out)) e ∙ drop-append_seam out rest)

-- a list of two that are as long as before
pub cut_out : {X : Type 0} (out xs ys l : List X) → length xs ≡ length out → l ≡ xs ++ ys → xs ≡ take (length out) l
cut_out out xs ys l n e = sym (ap (λ k. take k l) (sym n) ∙ ap (take (length xs)) e ∙ take-append_seam xs ys)

pub cut_input : {X : Type 0} (out xs ys l : List X) → length xs ≡ length out → l ≡ xs ++ ys → ys ≡ drop (length out) l
cut_input out xs ys l n e = sym (ap (λ k. drop k l) (sym n) ∙ ap (drop (length xs)) e ∙ drop-append_seam xs ys)

-- a range of both, on either side
pub take-map_range : {X : Type 0} (f : X → X) (xs ys : List X) (a b : ℕ) → a ≤ b
    → take (length xs) (map_range f (xs ++ ys) a b) ≡ map_range f xs a b
take-map_range f xs ys a b up =
    sym (cut_out xs (map_range f xs a b) (map_range f ys (a - length xs) (b - length xs)) _
    (length-map_range f xs a b up) (map_range-append f xs ys a b up))

pub drop-map_range_input : {X : Type 0} (f : X → X) (xs ys : List X) (a b : ℕ) → a ≤ b
    → drop (length xs) (map_range f (xs ++ ys) a b) ≡ map_range f ys (a - length xs) (b - length xs)
drop-map_range_input f xs ys a b up =
    sym (cut_input xs (map_range f xs a b) (map_range f ys (a - length xs) (b - length xs)) _
    (length-map_range f xs a b up) (map_range-append f xs ys a b up))

-- ---- the merge of both

pub merge_or_mark_merges : (any_order : Bool) (l : List hb_glyph_info_t) (p q floor : ℕ) → any_order ≡ false
    → merge_or_mark any_order l p q floor ≡ run_merge l p q floor
unfolding merge_or_mark
merge_or_mark_merges true l p q floor e = cc
merge_or_mark_merges false l p q floor e = refl

pub merge_or_mark_short : (any_order : Bool) (l : List hb_glyph_info_t) (p q floor : ℕ) → q ≤ p + 1
    → q ≤ length l → merge_or_mark any_order l p q floor ≡ l
unfolding merge_or_mark
merge_or_mark_short true l p q floor h in_l = cond-true _ _ _ (lt-ltb (q - p) 2 (omega arith))
merge_or_mark_short false l p q floor h in_l = run_merge_short l p q floor h in_l

pub merge_or_mark_marks : (any_order : Bool) (l : List hb_glyph_info_t) (p q floor : ℕ) → any_order ≡ true → p + 2 ≤ q
    → merge_or_mark any_order l p q floor ≡ on_part (mark BREAK_BITS) l p q
unfolding merge_or_mark
merge_or_mark_marks true l p q floor e h = cond-false _ _ _ (le-ltb (q - p) 2 (omega arith))
merge_or_mark_marks false l p q floor e h = cc

-- ---- a part of both

-- a part of the second list, seen from both as one
pub on_part-past : {X : Type 0} (g : List X → List X) (xs ys : List X) (p q : ℕ) → length xs ≤ p → p ≤ q
    → on_part g (xs ++ ys) p q ≡ xs ++ on_part g ys (p - length xs) (q - length xs)
on_part-past g xs ys p q h up =
    let n = length xs in
    let ep : n + (p - n) ≡ p = omega arith in
    let eq : n + (q - n) ≡ q = omega arith in
    let ed : q - p ≡ q - n - (p - n) = omega arith in
    let t : take p (xs ++ ys) ≡ xs ++ take (p - n) ys =
    ap (λ k. take k (xs ++ ys)) (sym ep) ∙ take-append-add xs ys (p - n) in
    let dp : drop p (xs ++ ys) ≡ drop (p - n) ys =
    ap (λ k. drop k (xs ++ ys)) (sym ep) ∙ drop-append-add xs ys (p - n) in
    let dq : drop q (xs ++ ys) ≡ drop (q - n) ys =
    ap (λ k. drop k (xs ++ ys)) (sym eq) ∙ drop-append-add xs ys (q - n) in
    ap (λ zs. zs ++ g (part (xs ++ ys) p q) ++ drop q (xs ++ ys)) t
    ∙ ap (λ zs. (xs ++ take (p - n) ys) ++ g (take (q - p) zs) ++ drop q (xs ++ ys)) dp
    ∙ ap (λ k. (xs ++ take (p - n) ys) ++ g (take k (drop (p - n) ys)) ++ drop q (xs ++ ys)) ed
    ∙ ap (λ zs. (xs ++ take (p - n) ys) ++ g (part ys (p - n) (q - n)) ++ zs) dq
    ∙ ap (λ zs. zs ++ drop (q - n) ys) (append_assoc xs (take (p - n) ys) (g (part ys (p - n) (q - n))))
    ∙ append_assoc xs (take (p - n) ys ++ g (part ys (p - n) (q - n))) (drop (q - n) ys)

pub on_part-at : {X : Type 0} (g : List X → List X) (l : List X) (i c d : ℕ) → c ≤ d
    → on_part g l (i + c) (i + d) ≡ take i l ++ on_part g (drop i l) c d
on_part-at g l i c d up =
    let ed : i + d - (i + c) ≡ d - c = omega arith in
    ap (λ zs. zs ++ g (part l (i + c) (i + d)) ++ drop (i + d) l) (take-add i c l)
    ∙ ap (λ k. (take i l ++ take c (drop i l)) ++ g (take k (drop (i + c) l)) ++ drop (i + d) l) ed
    ∙ ap (λ zs. (take i l ++ take c (drop i l)) ++ g (take (d - c) zs) ++ drop (i + d) l) (sym (drop-drop c i l))
    ∙ ap (λ zs. (take i l ++ take c (drop i l)) ++ g (part (drop i l) c d) ++ zs) (sym (drop-drop d i l))
    ∙ ap (λ zs. zs ++ drop d (drop i l)) (append_assoc (take i l) (take c (drop i l)) (g (part (drop i l) c d)))
    ∙ append_assoc (take i l) (take c (drop i l) ++ g (part (drop i l) c d)) (drop d (drop i l))

-- a range of the second list is marked there alone
pub merge_or_mark_past : (any_order : Bool) (xs ys : List hb_glyph_info_t) (a b floor : ℕ) → any_order ≡ true
    → a + 2 ≤ b → merge_or_mark any_order (xs ++ ys) (length xs + a) (length xs + b) floor
    ≡ xs ++ on_part (mark BREAK_BITS) ys a b
merge_or_mark_past any_order xs ys a b floor e h =
    merge_or_mark_marks any_order (xs ++ ys) (length xs + a) (length xs + b) floor e (omega arith)
    ∙ on_part-at (mark BREAK_BITS) (xs ++ ys) (length xs) a b (omega arith)
    ∙ ap (λ zs. zs ++ on_part (mark BREAK_BITS) (drop (length xs) (xs ++ ys)) a b) (take-append_seam xs ys)
    ∙ ap (λ zs. xs ++ on_part (mark BREAK_BITS) zs a b) (drop-append_seam xs ys)

pub ruleset sides = (map_range-cut, take-map_range, drop-map_range_input, map_range_none, map_range_past)

pub ruleset merges = (
  merge_or_mark_merges,
  merge_or_mark_marks,
  merge_or_mark_short,
  merge_or_mark_past,
  take-append_seam,
  drop-append_seam,
)
