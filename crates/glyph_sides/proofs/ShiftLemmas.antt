-- A move of the cursor, in the words of the two lists.
use Rattle.std.proofs.Common.{◌≡◌, ℕ, ◌+◌, ◌-◌, ◌≤◌, List, ◌++◌, length, length-drop}
use Rattle.std.proofs.Common.{slice_range, take, drop, arith, sym, ap, ◌∙◌}
use Rattle.std.proofs.lemmas.List.{drop-drop, drop-take}
use Rattle.std.proofs.lemmas.List.Edits.{drop-paste}
use Rattle.std.specs.List.{copy_within}
use Rattle.std.proofs.Math.Seq.{take-append-add, drop-append-add}

-- two lists, split in the second
pub take_past : {X : Type 0} (i : ℕ) (xs ys : List X) → length xs ≤ i
    → take i (xs ++ ys) ≡ xs ++ take (i - length xs) ys
take_past i xs ys h =
    let e : i ≡ length xs + (i - length xs) = omega arith in
    ap (λ k. take k (xs ++ ys)) e ∙ take-append-add xs ys (i - length xs)

pub drop_past : {X : Type 0} (i : ℕ) (xs ys : List X) → length xs ≤ i → drop i (xs ++ ys) ≡ drop (i - length xs) ys
drop_past i xs ys h =
    let e : i ≡ length xs + (i - length xs) = omega arith in
    ap (λ k. drop k (xs ++ ys)) e ∙ drop-append-add xs ys (i - length xs)

-- a part of a list
pub drop_is_range : {X : Type 0} (xs : List X) (start end : ℕ) → start ≤ end
    → drop start (take end xs) ≡ slice_range xs start end
drop_is_range xs start end h = let e : end ≡ start + (end - start) =
    omega arith in ap (λ k. drop start (take k xs)) e ∙ drop-take start (end - start) xs

-- what lies after the glyphs that were copied down stays
pub drop-copy_within : {X : Type 0} (xs : List X) (to from count : ℕ) → to ≤ from → from + count ≤ length xs
    → drop (from + count) (copy_within xs from (from + count) to) ≡ drop (from + count) xs
drop-copy_within xs to from count down within =
    let n : ℕ = from + count - from in
    let ys = copy_within xs from (from + count) to in
    let e : to + n + (from - to) ≡ from + count = omega arith in
    let room : n ≤ length (drop from xs) = omega (arith, length-drop from xs) in
    ap (λ k. drop k ys) (sym e) ∙ sym (drop-drop (from - to) (to + n) ys)
    ∙ ap (drop (from - to)) (drop-paste xs to (drop from xs) n (omega arith) room)
    ∙ drop-drop (from - to) (to + n) xs ∙ ap (λ k. drop k xs) e

pub ruleset down = (drop_is_range, drop-copy_within)

-- what two lists share from a place on they share further on
pub drop_further : {X : Type 0} (xs ys : List X) (n m : ℕ) → n ≤ m → drop n xs ≡ drop n ys → drop m xs ≡ drop m ys
drop_further xs ys n m after e =
    let k : n + (m - n) ≡ m = omega arith in
    ap (λ j. drop j xs) (sym k) ∙ sym (drop-drop (m - n) n xs) ∙ ap (drop (m - n)) e ∙ drop-drop (m - n) n ys
    ∙ ap (λ j. drop j ys) k
