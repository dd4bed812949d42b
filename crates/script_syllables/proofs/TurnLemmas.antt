-- Items that are turned within a range of their list.
use Rattle.std.proofs.Common.{◌≡◌, ℕ, ◌+◌, ◌-◌, ◌<◌, ◌≤◌, List, ◌++◌, length, take, drop, sym, ap, ◌∙◌, arith}
use Rattle.std.proofs.lemmas.Bool.Decides.{nat_tests}
use Rattle.std.proofs.lemmas.List.{drop-take, take-take, drop-drop}
use borrow.Rule.Slice.PartMut.{put_mid}
use Rattle.glyph_lists.specs.Parts.{part}
use Rattle.glyph_lists.proofs.PartsLemmas.{length-part}
use Rattle.script_syllables.specs.Moves.{moved, first_behind, last_before}

module _ {X : Type 0} (a m b : ℕ) (l : List X) (up : a ≤ m) (up2 : m ≤ b) (in_l : b ≤ length l) where
  -- the items from m on in front
  moved_by_turning : (ys : List X) (n : ℕ) → n ≡ m - a → ys ≡ drop n (part l a b) ++ take n (part l a b)
      → put_mid a (b - a) l ys ≡ moved a m b l
  moved_by_turning ys n n_is is =
      let k : b - a ≡ m - a + (b - m) = omega arith in
      let start : a + (m - a) ≡ m = omega arith in
      let end : a + (b - a) ≡ b = omega arith in
      let last : drop (m - a) (part l a b) ≡ part l m b =
      ap (λ i. drop (m - a) (take i (drop a l))) k ∙ drop-take (m - a) (b - m) (drop a l)
      ∙ ap (take (b - m)) (drop-drop (m - a) a l ∙ ap (λ i. drop i l) start) in
      let first : take (m - a) (part l a b) ≡ part l a m = take-take (m - a) (b - a) (drop a l) (omega arith) in
      let turned : ys ≡ part l m b ++ part l a m =
      is ∙ ap (λ i. drop i (part l a b) ++ take i (part l a b)) n_is
      ∙ ap (λ xs. xs ++ take (m - a) (part l a b)) last ∙ ap (λ xs. part l m b ++ xs) first in
      let rest : drop (b - a) (drop a l) ≡ drop b l = drop-drop (b - a) a l ∙ ap (λ i. drop i l) end in
      ap (λ xs. take a l ++ (xs ++ drop (b - a) (drop a l))) turned
      ∙ ap (λ xs. take a l ++ (part l m b ++ part l a m ++ xs)) rest

module _ {X : Type 0} (start end : ℕ) (l ys : List X) (in_l : end ≤ length l) where
  first_is : start < end → first_behind start end l ≡ moved start (start + 1) end l
  first_is some = grind (arith, nat_tests)

  last_is : (count : ℕ) → start ≤ end → count ≤ end - start
      → last_before start end count l ≡ moved start (end - count) end l
  last_is count up few = grind (arith, nat_tests)

  pub turned_left : start < end → ys ≡ drop 1 (part l start end) ++ take 1 (part l start end)
      → put_mid start (end - start) l ys ≡ first_behind start end l
  turned_left some is =
      moved_by_turning start (start + 1) end l (omega arith) (omega arith) in_l ys 1 (omega arith) is ∙ sym (first_is some)

  pub turned_right : (count : ℕ) → start ≤ end → count ≤ end - start
      → ys ≡ drop (length (part l start end) - count) (part l start end)
      ++ take (length (part l start end) - count) (part l start end)
      → put_mid start (end - start) l ys ≡ last_before start end count l
  turned_right count up few is =
      moved_by_turning start (end - count) end l (omega arith) (omega arith) in_l ys
      (length (part l start end) - count) (omega (arith, length-part l start end in_l)) is
      ∙ sym (last_is count up few)
