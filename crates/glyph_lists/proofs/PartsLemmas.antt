-- Ranges of a list: what stands in one, and a list of which one range is mapped.
use Rattle.std.proofs.Common.{All, suc, inl, inr, ◌≡◌, ℕ, ◌+◌, ◌-◌, ◌<◌, ◌≤◌, List, [], ◌∷◌, ◌++◌, length, get_or}
use Rattle.std.proofs.Common.{map, take, drop, set, min, refl, sym, ap, ◌∙◌, arith, length-append, length-drop}
use Rattle.std.proofs.Common.{length-take}
use Rattle.std.proofs.lemmas.Bool.{cases_lt}
use Rattle.std.proofs.lemmas.List.{set-get_or, drop_at, length-take-le, same_lists, take_more, drop_more}
use Rattle.std.proofs.lemmas.List.{set_at, map_push, append-nil, take-append-drop, get_or_append_left}
use Rattle.std.proofs.lemmas.List.{get_or-append_right, get_or-take, get_or-drop, get_or-map, length-map, map-append}
use Rattle.std.proofs.lemmas.List.{map-id, append_assoc}
use Rattle.std.proofs.lemmas.List.Elements.{All-append, All-take, All-drop, All-map, All-weaker}
use Rattle.glyph_lists.specs.Parts.{part, map_range}

-- ---- a part

-- a part is as long as its range, where that ends in the list
pub length-part : {X : Type 0} (xs : List X) (a b : ℕ) → b ≤ length xs → length (part xs a b) ≡ b - a
length-part xs a b in_xs = simp (length-take, length-drop) (omega arith)

-- the places of a part
pub get_or-part : {X : Type 0} (xs : List X) (a b k : ℕ) (d : X) → a ≤ k → k < b
    → get_or (part xs a b) (k - a) d ≡ get_or xs k d
get_or-part xs a b k d from_a before_b =
    let place : a + (k - a) ≡ k = omega arith in
    get_or-take (b - a) (drop a xs) (k - a) d (omega arith) ∙ get_or-drop a xs (k - a) d ∙ ap (λ j. get_or xs j d) place

-- ---- a mapped range, place by place

module _ {X : Type 0} (f : X → X) (l : List X) (a b : ℕ) (up : a ≤ b) where
  -- the length stays
  pub length-map_range : length (map_range f l a b) ≡ length l
  length-map_range = simp (length-append, length-map, length-take, length-drop) (omega arith)

  -- before the range, in it and after it
  pub map_range-before : (k : ℕ) (d : X) → k < a → k < length l → get_or (map_range f l a b) k d ≡ get_or l k d
  map_range-before k d before_a in_l =
      let n : k < length (take a l) = simp length-take (omega arith) in
      let n2 : k < length (take a l ++ map f (part l a b)) = simp (length-append, length-take) (omega arith) in
      rw (get_or_append_left, get_or_append_left, get_or-take) refl

  pub map_range-within : (k : ℕ) (d : X) → a ≤ k → k < b → k < length l
      → get_or (map_range f l a b) k d ≡ f (get_or l k d)
  map_range-within k d from_a before_b in_l =
      let n2 : k < length (take a l ++ map f (part l a b)) =
      simp (length-append, length-map, length-take, length-drop) (omega arith) in
      let n3 : length (take a l) ≡ a = simp length-take (omega arith) in
      let n4 : k - a < length (part l a b) = simp (length-take, length-drop) (omega arith) in
      let n5 : k - a < b - a = omega arith in
      let n6 : a + (k - a) ≡ k = omega arith in
      get_or_append_left (take a l ++ map f (part l a b)) (drop b l) d k n2
      ∙ get_or-append_right (take a l) (map f (part l a b)) a k d n3 from_a
      ∙ get_or-map f (part l a b) (k - a) d d n4
      ∙ ap f (get_or-take (b - a) (drop a l) (k - a) d n5 ∙ get_or-drop a l (k - a) d ∙ ap (λ j. get_or l j d) n6)

  pub map_range-after : (k : ℕ) (d : X) → b ≤ k → k < length l → get_or (map_range f l a b) k d ≡ get_or l k d
  map_range-after k d from_b in_l =
      let n3 : length (take a l ++ map f (part l a b)) ≡ b =
      simp (length-append, length-map, length-take, length-drop) (omega arith) in
      let n6 : b + (k - b) ≡ k = omega arith in
      get_or-append_right (take a l ++ map f (part l a b)) (drop b l) b k d n3 from_b
      ∙ get_or-drop b l (k - b) d ∙ ap (λ j. get_or l j d) n6

-- ---- one place more

-- a part that ends one place later
pub part_more : {X : Type 0} (xs : List X) (a i : ℕ) (d : X) → a ≤ i → i < length xs
    → part xs a (i + 1) ≡ part xs a i ++ get_or xs i d ∷ []
part_more xs a i d from_a in_xs =
    let n : i + 1 - a ≡ i - a + 1 = omega arith in
    let m : a + (i - a) ≡ i = omega arith in
    ap (λ k. take k (drop a xs)) n
    ∙ take_more (drop a xs) (i - a) d (omega (arith, length-drop a xs))
    ∙ ap (λ x. take (i - a) (drop a xs) ++ x ∷ []) (get_or-drop a xs (i - a) d ∙ ap (λ j. get_or xs j d) m)

-- one place more is mapped by a write at that place
pub set-map_range_more : {X : Type 0} (f : X → X) (l : List X) (a i : ℕ) (y d : X) → a ≤ i → i < length l
    → y ≡ f (get_or l i d) → set (map_range f l a i) i y ≡ map_range f l a (i + 1)
set-map_range_more f l a i y d from_a in_l e =
    let p = take a l ++ map f (part l a i) in
    let n : length p ≡ i = simp (length-append, length-map, length-take, length-drop) (omega arith) in
    ap (λ s. set (p ++ s) i y) (drop_more l i d in_l)
    ∙ set_at p (get_or l i d) (drop (i + 1) l) y i n
    ∙ ap (λ z. p ++ z ∷ drop (i + 1) l) e
    ∙ sym (append_assoc p (f (get_or l i d) ∷ []) (drop (i + 1) l))
    ∙ ap (λ q. q ++ drop (i + 1) l) (append_assoc (take a l) (map f (part l a i)) (f (get_or l i d) ∷ []))
    ∙ ap (λ q. take a l ++ q ++ drop (i + 1) l)
    (sym (ap (map f) (part_more l a i d from_a in_l) ∙ map_push f (part l a i) (get_or l i d)))

-- one place more at the front of a range
pub set-map_range_front : {X : Type 0} (f : X → X) (l : List X) (s b : ℕ) (y d : X) → s < b → s < length l
    → y ≡ f (get_or l s d) → set (map_range f l (s + 1) b) s y ≡ map_range f l s b
set-map_range_front f l s b y d some in_l e =
    let x = get_or l s d in
    let m = map f (part l (s + 1) b) in
    let n : length (take s l) ≡ s = simp length-take (omega arith) in
    let k : b - s ≡ suc (b - (s + 1)) = omega arith in
    let front : map_range f l (s + 1) b ≡ take s l ++ x ∷ (m ++ drop b l) =
    ap (λ xs. xs ++ m ++ drop b l) (take_more l s d in_l)
    ∙ ap (λ xs. xs ++ drop b l) (append_assoc (take s l) (x ∷ []) m) ∙ append_assoc (take s l) (x ∷ m) (drop b l) in
    let range : part l s b ≡ x ∷ part l (s + 1) b =
    ap (λ j. take j (drop s l)) k ∙ ap (take (suc (b - (s + 1)))) (drop_more l s d in_l) in
    ap (λ xs. set xs s y) front ∙ set_at (take s l) x (m ++ drop b l) y s n
    ∙ ap (λ z. take s l ++ z ∷ (m ++ drop b l)) e
    ∙ sym (append_assoc (take s l) (f x ∷ m) (drop b l))
    ∙ sym (ap (λ xs. take s l ++ map f xs ++ drop b l) range)

-- the next place after a mapped range, and the one before it, are as they were
pub get_or-map_range_next : {X : Type 0} (f : X → X) (l : List X) (a b : ℕ) (d : X) → a ≤ b → b < length l
    → get_or (map_range f l a b) b d ≡ get_or l b d
get_or-map_range_next f l a b d up in_l = map_range-after f l a b up b d (omega arith) in_l

pub get_or-map_range_last : {X : Type 0} (f : X → X) (l : List X) (a b : ℕ) (d : X) → 0 < a → a ≤ b → a ≤ length l
    → get_or (map_range f l a b) (a - 1) d ≡ get_or l (a - 1) d
get_or-map_range_last f l a b d some up in_l = map_range-before f l a b up (a - 1) d (omega arith) (omega arith)

-- an end of the range that f leaves as it is
pub map_range_after_first : {X : Type 0} (f : X → X) (l : List X) (s b : ℕ) (d : X) → s < b → s < length l
    → f (get_or l s d) ≡ get_or l s d
    → map_range f l (s + 1) b ≡ map_range f l s b
map_range_after_first f l s b d some in_l same =
    let m = map_range f l (s + 1) b in
    sym (set-get_or m s d)
    ∙ ap (set m s) (map_range-before f l (s + 1) b (omega arith) s d (omega arith) in_l)
    ∙ set-map_range_front f l s b (get_or l s d) d some in_l (sym same)

pub map_range_to_last : {X : Type 0} (f : X → X) (l : List X) (a i : ℕ) (d : X) → a ≤ i → i < length l
    → f (get_or l i d) ≡ get_or l i d
    → map_range f l a i ≡ map_range f l a (i + 1)
map_range_to_last f l a i d up in_l same =
    let m = map_range f l a i in
    sym (set-get_or m i d)
    ∙ ap (set m i) (get_or-map_range_next f l a i d up in_l)
    ∙ set-map_range_more f l a i (get_or l i d) d up in_l (sym same)

-- an empty range
pub map_range_none : {X : Type 0} (f : X → X) (l : List X) (a : ℕ) → map_range f l a a ≡ l
map_range_none f l a =
    let n : a - a ≡ 0 = omega arith in
    ap (λ k. take a l ++ map f (take k (drop a l)) ++ drop a l) n ∙ ap (λ x. x ++ drop a l) (append-nil (take a l))
    ∙ take-append-drop a l

-- ---- what a mapped range leaves as it is

-- f changes nothing
map_range_same : {X : Type 0} (f : X → X) → ((x : X) → f x ≡ x) → (l : List X) (a b : ℕ) → a ≤ b → map_range f l a b ≡ l
map_range_same f same l a b up =
    let n = length-map_range f l a b up in
    same_lists _ _ n
    (λ k d h.
    let in_l : k < length l = omega arith in
    elim (cases_lt k a) [
      | inl lt ↦ map_range-before f l a b up k d lt in_l
      | inr ge ↦ elim (cases_lt k b) [
        | inl lt ↦ map_range-within f l a b up k d ge lt in_l ∙ same _
        | inr ge2 ↦ map_range-after f l a b up k d ge2 in_l
      ]
    ])

-- a list is what stands before a part, the part, and what stands after it
pub append-part : {X : Type 0} (l : List X) (a b : ℕ) → a ≤ b → take a l ++ part l a b ++ drop b l ≡ l
append-part l a b up =
    ap (λ xs. take a l ++ xs ++ drop b l) (sym (map-id (part l a b))) ∙ map_range_same (λ x. x) (λ x. refl) l a b up

-- g reads the same of a list with a new part, if it does of the part
pub map-new_part : {X Y : Type 0} (g : X → Y) (l new : List X) (a b : ℕ) → a ≤ b → map g new ≡ map g (part l a b)
    → map g (take a l ++ new ++ drop b l) ≡ map g l
map-new_part g l new a b up same =
    map-append g (take a l ++ new) (drop b l)
    ∙ ap (λ ys. ys ++ map g (drop b l)) (map-append g (take a l) new ∙ ap (λ ys. map g (take a l) ++ ys) same
    ∙ sym (map-append g (take a l) (part l a b)))
    ∙ sym (map-append g (take a l ++ part l a b) (drop b l)) ∙ ap (map g) (append-part l a b up)

-- g reads the same of each element that f changes
pub map-map_same : {X Y : Type 0} (g : X → Y) (f : X → X) → ((x : X) → g (f x) ≡ g x) → (l : List X)
    → map g (map f l) ≡ map g l
map-map_same g f same [] = refl
map-map_same g f same (x ∷ l) = ap (λ y. y ∷ map g (map f l)) (same x) ∙ ap (λ ys. g x ∷ ys) (map-map_same g f same l)

-- and of each element that f changes in a range
pub map-map_range : {X Y : Type 0} (g : X → Y) (f : X → X) → ((x : X) → g (f x) ≡ g x) → (l : List X) (a b : ℕ) → a ≤ b
    → map g (map_range f l a b) ≡ map g l
map-map_range g f same l a b up = map-new_part g l (map f (part l a b)) a b up (map-map_same g f same (part l a b))

-- what f keeps of an element holds of all
pub All-map_range : {X : Type 0} (P : X → Type 0) (f : X → X) → ((x : X) → P x → P (f x)) → (l : List X) (a b : ℕ)
    → All P l → All P (map_range f l a b)
All-map_range P f keeps l a b all =
    All-append P (take a l ++ map f (part l a b)) (drop b l)
    (All-append P (take a l) (map f (part l a b)) (All-take P a l all)
    (All-map P f (part l a b) (All-weaker P (λ x. P (f x)) keeps (part l a b)
    (All-take P (b - a) (drop a l) (All-drop P a l all)))))
    (All-drop P b l all)

-- ---- a range over two lists, one after the other

-- the range over both lists is a range in each
pub map_range-append : {X : Type 0} (f : X → X) (xs ys : List X) (a b : ℕ) → a ≤ b
    → map_range f (xs ++ ys) a b ≡ map_range f xs a b ++ map_range f ys (a - length xs) (b - length xs)
map_range-append f xs ys a b up =
    let n = length-map_range f (xs ++ ys) a b up in
    let n1 = length-map_range f xs a b up in
    let up2 : a - length xs ≤ b - length xs = omega arith in
    let n2 = length-map_range f ys (a - length xs) (b - length xs) up2 in
    let zs = map_range f xs a b in
    let ws = map_range f ys (a - length xs) (b - length xs) in
    same_lists _ _ (n ∙ length-append xs ys
    ∙ sym (length-append zs ws ∙ ap (λ k. k + length ws) n1 ∙ ap (λ k. length xs + k) n2))
    (λ k d h.
    let in_l : k < length (xs ++ ys) = omega arith in
    let all = length-append xs ys in
    elim (cases_lt k (length xs)) [
      | inl lt ↦
          let old = get_or_append_left xs ys d k lt in
          let new = get_or_append_left zs ws d k (omega arith) in
          elim (cases_lt k a) [
            | inl l1 ↦ map_range-before f (xs ++ ys) a b up k d l1 in_l ∙ old
                ∙ sym (new ∙ map_range-before f xs a b up k d l1 lt)
            | inr g1 ↦ elim (cases_lt k b) [
              | inl l2 ↦ map_range-within f (xs ++ ys) a b up k d g1 l2 in_l ∙ ap f old
                  ∙ sym (new ∙ map_range-within f xs a b up k d g1 l2 lt)
              | inr g2 ↦ map_range-after f (xs ++ ys) a b up k d g2 in_l ∙ old
                  ∙ sym (new ∙ map_range-after f xs a b up k d g2 lt)
            ]
          ]
      | inr ge ↦
          let j = k - length xs in
          let in_ys : j < length ys = omega arith in
          let old = get_or-append_right xs ys (length xs) k d refl ge in
          let new = get_or-append_right zs ws (length xs) k d n1 ge in
          elim (cases_lt k a) [
            | inl l1 ↦ map_range-before f (xs ++ ys) a b up k d l1 in_l ∙ old
                ∙ sym (new ∙ map_range-before f ys (a - length xs) (b - length xs) up2 j d (omega arith) in_ys)
            | inr g1 ↦ elim (cases_lt k b) [
              | inl l2 ↦ map_range-within f (xs ++ ys) a b up k d g1 l2 in_l ∙ ap f old
                  ∙ sym (new ∙ map_range-within f ys (a - length xs) (b - length xs) up2 j d (omega arith) (omega arith)
                  in_ys)
              | inr g2 ↦ map_range-after f (xs ++ ys) a b up k d g2 in_l ∙ old
                  ∙ sym (new ∙ map_range-after f ys (a - length xs) (b - length xs) up2 j d (omega arith) in_ys)
            ]
          ]
    ])

-- the end of a range may be cut at the list's
pub map_range_cut : {X : Type 0} (f : X → X) (xs : List X) (a b : ℕ) → a ≤ min b (length xs)
    → map_range f xs a (min b (length xs)) ≡ map_range f xs a b
map_range_cut f xs a b low =
    let n : length (map_range f xs a (min b (length xs))) ≡ length (map_range f xs a b) =
    length-map_range f xs a (min b (length xs)) low ∙ sym (length-map_range f xs a b (omega arith)) in
    same_lists _ _ n
    (λ k d in_cut.
    let in_l : k < length xs = omega (arith, length-map_range f xs a (min b (length xs)) low) in
    elim (cases_lt k a) [
      | inl l1 ↦ map_range-before f xs a (min b (length xs)) low k d l1 in_l
          ∙ sym (map_range-before f xs a b (omega arith) k d l1 in_l)
      | inr g1 ↦ elim (cases_lt k b) [
        | inl l2 ↦ map_range-within f xs a (min b (length xs)) low k d g1 (omega arith) in_l
            ∙ sym (map_range-within f xs a b (omega arith) k d g1 l2 in_l)
        | inr g2 ↦ map_range-after f xs a (min b (length xs)) low k d (omega arith) in_l
            ∙ sym (map_range-after f xs a b (omega arith) k d g2 in_l)
      ]
    ])

-- a range past the list
pub map_range_past : {X : Type 0} (f : X → X) (xs : List X) (a b : ℕ) → a ≤ b → length xs ≤ a → map_range f xs a b ≡ xs
map_range_past f xs a b up past =
    same_lists _ _ (length-map_range f xs a b up) (λ k d in_xs. let n = length-map_range f xs a b up in
    map_range-before f xs a b up k d (omega arith) (omega arith))

-- ---- what stands from a place on

module _ {X : Type 0} (f : X → X) (l : List X) where
  -- the list cut at n
  map_range-cut_at : (n a b : ℕ) → a ≤ b → n ≤ length l
      → map_range f l a b ≡ map_range f (take n l) a b ++ map_range f (drop n l) (a - n) (b - n)
  map_range-cut_at n a b up in_l =
      let e : length (take n l) ≡ n = length-take-le n l in_l in
      ap (λ x. map_range f x a b) (sym (take-append-drop n l)) ∙ map_range-append f (take n l) (drop n l) a b up
      ∙ ap (λ k. map_range f (take n l) a b ++ map_range f (drop n l) (a - k) (b - k)) e

  -- the places from n on
  pub drop-map_range : (n a b : ℕ) → a ≤ b → n ≤ length l
      → drop n (map_range f l a b) ≡ map_range f (drop n l) (a - n) (b - n)
  drop-map_range n a b up in_l =
      ap (drop n) (map_range-cut_at n a b up in_l)
      ∙ drop_at (map_range f (take n l) a b) _ n (length-map_range f (take n l) a b up ∙ length-take-le n l in_l)
