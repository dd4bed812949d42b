-- Groups: where one ends, and what reversals make of them.
use Rattle.std.proofs.Common.{◌≡◌, ℕ, suc, ◌+◌, ◌-◌, ◌<◌, ◌≤◌, Bool, true, false, List, [], ◌∷◌, ◌++◌, length, get_or}
use Rattle.std.proofs.Common.{take, drop, reverse, refl, sym, ap, ◌∙◌, arith, if◌then◌else◌, length-append, length-take}
use Rattle.std.proofs.Common.{length-drop}
use Rattle.std.proofs.lemmas.Bool.{cond_both}
use Rattle.std.proofs.lemmas.List.{drop_more, drop_all, length-reverse, reverse-append, reverse-reverse, append_assoc}
use Rattle.std.proofs.lemmas.List.{append-nil}
use Rattle.std.proofs.Math.Seq.{take-append_seam, drop-append_seam, drop-append-add}
use Rattle.rb_glyph.specs.declared.info.hb_glyph_info_t.{hb_glyph_info_t}
use Rattle.glyph_lists.specs.Clusters.{zero_glyph}
use Rattle.glyph_lists.specs.Parts.{part}
use Rattle.glyph_lists.specs.Groups.{Test, group_len, first_group_len, first_longer, lens_from, group_lens}
use Rattle.glyph_lists.specs.Groups.{groups_in_reverse, reverse_range}

-- ---- where a group ends

-- the last glyph of a list is the last of its group
pub first_group_len_of_last : (test : Test) (l : List hb_glyph_info_t) (i : ℕ) → i < length l → length l ≤ i + 1
    → first_group_len test (drop i l) ≡ 1
first_group_len_of_last test l i h last = ap (first_group_len test) (drop_more l i zero_glyph h)
    ∙ ap (group_len test (get_or l i zero_glyph)) (drop_all (i + 1) l last)

-- ---- the lengths of the groups

-- the first of them, and those of what is left
lens_from_first : (test : Test) (x : hb_glyph_info_t) (l : List hb_glyph_info_t)
    → lens_from test x l ≡ group_len test x l ∷ group_lens test (drop (group_len test x l) (x ∷ l))
lens_from_first test x [] = refl
lens_from_first test x (y ∷ ys) =
    let Q : ℕ → List ℕ → Type 0 = λ n ns. ns ≡ n ∷ group_lens test (drop n (x ∷ y ∷ ys)) in
    let n = group_len test y ys in
    let m : suc n ≡ 1 + n = omega arith in
    both_lens (test x y) n (lens_from test y ys) Q
    (ap first_longer (lens_from_first test y ys) ∙ ap (λ k. (1 + n) ∷ group_lens test (drop k (x ∷ y ∷ ys))) m) refl
  where
    both_lens : (b : Bool) (n : ℕ) (ns : List ℕ) (Q : ℕ → List ℕ → Type 0) → Q (1 + n) (first_longer ns) → Q 1 (1 ∷ ns)
        → Q (if b then 1 + n else 1) (if b then first_longer ns else 1 ∷ ns)
    both_lens true n ns Q h h2 = h
    both_lens false n ns Q h h2 = h2

pub group_lens_first : (test : Test) (l : List hb_glyph_info_t) → 0 < length l
    → group_lens test l ≡ first_group_len test l ∷ group_lens test (drop (first_group_len test l) l)
group_lens_first test [] some = absurd (omega arith)
group_lens_first test (x ∷ l) some = lens_from_first test x l

-- a group lies in its list
group_len-within : (test : Test) (x : hb_glyph_info_t) (l : List hb_glyph_info_t)
    → (1 ≤ group_len test x l) × (group_len test x l ≤ 1 + length l)
group_len-within test x [] = (omega arith, omega arith)
group_len-within test x (y ∷ ys) =
    let h = group_len-within test y ys in
    cond_both (test x y) _ _ (λ (n : ℕ). (1 ≤ n) × (n ≤ 1 + length (y ∷ ys))) (λ _. (omega arith, omega arith))
    (λ _. (omega arith, omega arith))

pub first_group_len-within : (test : Test) (l : List hb_glyph_info_t) → 0 < length l
    → (1 ≤ first_group_len test l) × (first_group_len test l ≤ length l)
first_group_len-within test [] some = absurd (omega arith)
first_group_len-within test (x ∷ l) some =
    let low = (group_len-within test x l).0 in
    let high = (group_len-within test x l).1 in
    (low, omega arith)

-- the sum of the lengths
abbrev pub total : List ℕ → ℕ
total [] = 0
total (n ∷ ns) = n + total ns

total-longer : (n : ℕ) (ns ms : List ℕ) → ms ≡ n ∷ ns → total (first_longer ms) ≡ 1 + total ms
total-longer n ns ms e =
    let sum : 1 + n + total ns ≡ 1 + (n + total ns) = omega arith in
    ap (λ ks. total (first_longer ks)) e ∙ sum ∙ sym (ap (λ ks. 1 + total ks) e)

total_from : (test : Test) (x : hb_glyph_info_t) (l : List hb_glyph_info_t) → total (lens_from test x l) ≡ 1 + length l
total_from test x [] = refl
total_from test x (y ∷ ys) =
    let rest = total_from test y ys in
    let more = total-longer _ _ (lens_from test y ys) (lens_from_first test y ys) in
    cond_both (test x y) _ _ (λ (ns : List ℕ). total ns ≡ 1 + length (y ∷ ys)) (λ _. omega arith) (λ _. omega arith)

-- the groups are the whole list
pub total_of_groups : (test : Test) (l : List hb_glyph_info_t) → total (group_lens test l) ≡ length l
total_of_groups test [] = refl
total_of_groups test (x ∷ l) = let n = total_from test x l in omega arith

-- ---- ranges that are reversed in their places

pub length-reverse_range : {X : Type 0} (a b : ℕ) (xs : List X) → a ≤ b → length (reverse_range a b xs) ≡ length xs
length-reverse_range a b xs up = simp (length-append, length-reverse, length-take, length-drop) (omega arith)

-- what stands after the range stays
pub drop-reverse_range : {X : Type 0} (a b : ℕ) (xs : List X) → a ≤ b → b ≤ length xs
    → drop b (reverse_range a b xs) ≡ drop b xs
drop-reverse_range a b xs up in_xs =
    let front = take a xs ++ reverse (part xs a b) in
    let n : length front ≡ b = simp (length-append, length-reverse, length-take, length-drop) (omega arith) in
    ap (λ k. drop k (front ++ drop b xs)) (sym n) ∙ drop-append_seam front (drop b xs)

-- the ranges of these lengths, one after the other from `start` on, each reversed in its place
abbrev pub ranges_reversed : {X : Type 0} → List ℕ → ℕ → List X → List X
ranges_reversed [] start xs = xs
ranges_reversed (n ∷ ns) start xs = ranges_reversed ns (start + n) (reverse_range start (start + n) xs)

-- the next range
reverse_range-one : {X : Type 0} (n : ℕ) (done xs : List X)
    → reverse_range (length done) (length done + n) (done ++ xs) ≡ done ++ reverse (take n xs) ++ drop n xs
reverse_range-one n done xs =
    let k : length done + n - length done ≡ n = omega arith in
    ap (λ ys. ys ++ reverse (part (done ++ xs) (length done) (length done + n)) ++ drop (length done + n) (done ++ xs))
    (take-append_seam done xs)
    ∙ ap (λ ys. done ++ reverse (take (length done + n - length done) ys) ++ drop (length done + n) (done ++ xs))
    (drop-append_seam done xs)
    ∙ ap (λ j. done ++ reverse (take j xs) ++ drop (length done + n) (done ++ xs)) k
    ∙ ap (λ ys. done ++ reverse (take n xs) ++ ys) (drop-append-add done xs n)

reversed_after : {X : Type 0} (ns : List ℕ) (done xs : List X) → total ns ≡ length xs
    → reverse (ranges_reversed ns (length done) (done ++ xs)) ≡ groups_in_reverse ns xs ++ reverse done
reversed_after [] done [] all = ap reverse (append-nil done)
reversed_after [] done (x ∷ xs) all = absurd (omega arith)
reversed_after (n ∷ ns) done xs all =
    let next = done ++ reverse (take n xs) in
    let m : length next ≡ length done + n = simp (length-append, length-reverse, length-take) (omega arith) in
    let left : total ns ≡ length (drop n xs) = simp length-drop (omega arith) in
    let after = groups_in_reverse ns (drop n xs) in
    ap (λ ys. reverse (ranges_reversed ns (length done + n) ys)) (reverse_range-one n done xs)
    ∙ ap (λ k. reverse (ranges_reversed ns k (next ++ drop n xs))) (sym m)
    ∙ reversed_after ns next (drop n xs) left
    ∙ ap (λ ys. after ++ ys) (reverse-append done (reverse (take n xs))
    ∙ ap (λ ys. ys ++ reverse done) (reverse-reverse (take n xs)))
    ∙ sym (append_assoc after (take n xs) (reverse done))

-- Ranges that are each reversed in its place, and then the whole: the ranges are in reverse order, each in its own.
pub ranges_in_reverse : {X : Type 0} (ns : List ℕ) (xs : List X) → total ns ≡ length xs
    → reverse (ranges_reversed ns 0 xs) ≡ groups_in_reverse ns xs
ranges_in_reverse ns xs all = reversed_after ns [] xs all ∙ append-nil (groups_in_reverse ns xs)
