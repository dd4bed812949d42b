-- Advances, of which none is kept; and one more that is kept.
use Rattle.std.proofs.Common.{ℕ, zero, suc, ◌≡◌, List, [], ◌∷◌, Option, None, refl}
use Rattle.std.specs.Prelude.{get_or}
use Rattle.std.specs.Option.{ForSome}
use Rattle.std.proofs.Math.ListN.{replicate, set}
use Rattle.font_face.specs.declared.face.Face.{Face}
use Rattle.font_functions.specs.OwnFunctions.{IsOwnAdvance}
use Rattle.shape_fonts.specs.KeptAdvances.{AreOwn}
use Rattle.shape_fonts.specs.declared.kept_advances.KeptAdvance.{KeptAdvance}

pub get_or-none : {A : Type 0} (n place : ℕ) → get_or {A = Option A} (replicate n None) place None ≡ None
get_or-none zero place = refl
get_or-none (suc n) zero = refl
get_or-none (suc n) (suc place) = get_or-none n place

pub are_own-set : (face : Face) (kept : List (Option KeptAdvance)) (at : ℕ) (advance : Option KeptAdvance) → AreOwn face kept
    → ForSome advance (λ k. IsOwnAdvance face k.glyph.0 k.advance) → AreOwn face (set kept at advance)
are_own-set face [] at advance own is place x e = own place x e
are_own-set face (k ∷ kept) zero advance own is zero x e = is x e
are_own-set face (k ∷ kept) zero advance own is (suc place) x e = own (suc place) x e
are_own-set face (k ∷ kept) (suc at) advance own is zero x e = own zero x e
are_own-set face (k ∷ kept) (suc at) advance own is (suc place) x e = are_own-set face kept at advance (λ p. own (suc p)) is place x e
