-- The size that a command line names: how long an em is, and how many pixels it has.
use Rattle.std.specs.Prelude.{ℕ, ℤ, ◌≡◌, Option, IfSome}
use Rattle.font_tables.specs.declared.scale.Scale.{Scale}

-- an em is as long as was said, if anything was
abbrev pub HasSize : Option (ℤ × ℤ) → Scale → Type 0
HasSize size scale = IfSome size (λ s. (scale.x ≡ s.0) × (scale.y ≡ s.1))

-- an em has as many pixels as was said, if anything was
abbrev pub HasPixels : Option (ℕ × ℕ) → Scale → Type 0
HasPixels pixels scale = IfSome pixels (λ p. (scale.x_ppem ≡ p.0) × (scale.y_ppem ≡ p.1))
