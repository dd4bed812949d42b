-- Which bits a run of ones has.
use Rattle.std.proofs.Common.{◌≡◌, ◌+◌, ◌-◌, ◌^◌, ℕ, ◌<◌, ◌≤◌, ◌↔◌, ◌⊎◌, inl, inr, arith}
use Rattle.std.specs.Int.{bit_at}
use Rattle.std.proofs.lemmas.Nat.Bits.{bit_at_mask_inside, bit_at_mask_below, bit_at_mask_above}

-- the bits of `2 ^ (y + 1) - 2 ^ x` are those from x to y
pub bits_of_range : (x y k : ℕ) → (bit_at (2 ^ (y + 1) - 2 ^ x) k ≡ 1) ↔ ((x ≤ k) × (k ≤ y))
bits_of_range x y k = (inside, λ h. bit_at_mask_inside x (y + 1) k h.0 (omega arith)) where
  within : bit_at (2 ^ (y + 1) - 2 ^ x) k ≡ 1 → (k < x) ⊎ (x ≤ k) → (k < y + 1) ⊎ (y + 1 ≤ k) → (x ≤ k) × (k ≤ y)
  within e (inl h) q = let z : bit_at (2 ^ (y + 1) - 2 ^ x) k ≡ 0 =
      bit_at_mask_below x (y + 1) k h in absurd (omega arith)
  within e (inr p) (inr h) = let z : bit_at (2 ^ (y + 1) - 2 ^ x) k ≡ 0 =
      bit_at_mask_above x (y + 1) k h in absurd (omega arith)
  within e (inr p) (inl q) = (p, omega arith)

  inside : bit_at (2 ^ (y + 1) - 2 ^ x) k ≡ 1 → (x ≤ k) × (k ≤ y)
  inside e = within e (grind arith) (grind arith)
