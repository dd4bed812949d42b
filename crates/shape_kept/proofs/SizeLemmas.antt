-- A size that stays as an em gets its pixels.
use Rattle.std.proofs.Common.{◌≡◌, ◌∙◌, ℤ, Some, None, Option}
use Rattle.font_tables.specs.declared.scale.Scale.{Scale}
use Rattle.shape_kept.specs.Sizes.{HasSize}

-- a scale that is as long as one of that size has it too
pub same_size : (size : Option (ℤ × ℤ)) (old new : Scale) → (new.x ≡ old.x) × (new.y ≡ old.y) → HasSize size old → HasSize size new
same_size (Some s) old new same has = (same.0 ∙ has.0, same.1 ∙ has.1)
same_size None old new same has = tt
