-- Lists in the order of keys.
use Rattle.std.specs.Prelude.{◌≡◌, ◌<◌, ◌≤◌, ℕ, List, Some, length, slice_get}

-- the keys rise along a list
abbrev pub KeysRise : {X : Type 0} → (X → ℕ) → List X → Type 0
KeysRise {X} key l = (i j : ℕ) (x y : X) → i < j → slice_get l i ≡ Some x → slice_get l j ≡ Some y → key x < key y

-- what stands at a place has a key
abbrev pub IsPlaceOf : {X : Type 0} → (X → ℕ) → ℕ → List X → ℕ → Type 0
IsPlaceOf {X} key k l i = (i < length l) × ((x : X) → slice_get l i ≡ Some x → key x ≡ k)

-- lower keys stand before a place, and higher ones from it on
abbrev pub IsGapFor : {X : Type 0} → (X → ℕ) → ℕ → List X → ℕ → Type 0
IsGapFor {X} key k l i =
    (i ≤ length l) × ((j : ℕ) (x : X) → slice_get l j ≡ Some x → (j < i → key x < k) × (i ≤ j → k < key x))
