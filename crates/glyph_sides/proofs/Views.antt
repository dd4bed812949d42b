-- Lists seen from the whole input and from what is left of it.
use Rattle.std.proofs.Common.{◌≡◌, ℕ, ◌+◌, ◌-◌, ◌≤◌, Bool, true, false, List, ◌++◌, length, take, drop, refl, sym, ap, ◌∙◌}
use Rattle.std.proofs.Common.{if◌then◌else◌, arith}
use Rattle.std.proofs.Math.ListN.{set}
use Rattle.std.proofs.Math.Seq.{drop-append_seam}
use Rattle.std.proofs.lemmas.List.{drop-drop, drop-set-add, drop_at, length-take-le}

-- what is left after one more glyph
pub drop-next : {X : Type 0} (n : ℕ) (xs : List X) → drop (n + 1) xs ≡ drop 1 (drop n xs)
drop-next n xs = sym (drop-drop 1 n xs)

-- how many glyphs were put out in place: none with no output open
pub placed_within : (is : Bool) (cursor gap : ℕ) → (if is then cursor - gap else 0) ≤ cursor
placed_within true cursor gap = omega arith
placed_within false cursor gap = omega arith

pub sub-none_placed : (is : Bool) (cursor gap : ℕ) → is ≡ false → (if is then cursor - gap else 0) ≡ 0
sub-none_placed true cursor gap e = cc
sub-none_placed false cursor gap e = refl

-- a write after the cursor, seen from the vector and from what is left
pub if-set_left : {X : Type 0} (is : Bool) (n k : ℕ) (xs : List X) (x : X)
    → (if is then drop n (set xs (n + k) x) else set xs (n + k) x)
    ≡ set (if is then drop n xs else xs) (if is then k else n + k) x
if-set_left true n k xs x = drop-set-add n xs k x
if-set_left false n k xs x = refl

-- ---- what an open output leaves to read, or the whole input

-- seen from the vector
pub drop-input : {X : Type 0} (is : Bool) (n : ℕ) (xs : List X)
    → drop (if is then n else 0) xs ≡ (if is then drop n xs else xs)
drop-input true n xs = refl
drop-input false n xs = refl

-- other items in place of it
pub append-new_input : {X : Type 0} (is : Bool) (n : ℕ) (xs ys : List X) → n ≤ length xs
    → (if is then drop n (take (if is then n else 0) xs ++ ys) else take (if is then n else 0) xs ++ ys) ≡ ys
append-new_input true n xs ys h = drop_at (take n xs) ys n (length-take-le n xs h)
append-new_input false n xs ys h = refl

pub ruleset sides = (drop-input, append-new_input)

-- what stands after a front that is whole
pub drop-behind : {X : Type 0} (n : ℕ) (xs ys : List X) → n ≤ length xs → drop n (take n xs ++ ys) ≡ ys
drop-behind n xs ys h =
    ap (λ k. drop k (take n xs ++ ys)) (sym (length-take-le n xs h)) ∙ drop-append_seam (take n xs) ys
