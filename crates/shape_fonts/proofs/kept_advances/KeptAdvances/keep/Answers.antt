use Rattle.std.proofs.Common.{◌≡◌, Some, subst, sym, w32}
use Rattle.std.proofs.lemmas.Int.{to_z-of_z}
use Rattle.font_functions.specs.OwnFunctions.{IsOwnAdvance}
use Rattle.shape_fonts.proofs.AdvanceLemmas.{are_own-set}
use Rattle.shape_fonts.specs.declared.kept_advances.KeptAdvance.{KeptAdvance}
use Rattle.shape_fonts.proofs.kept_advances.KeptAdvances.keep.Goals as goal

some_inj : (x y : KeptAdvance) → Some x ≡ Some y → x ≡ y
some_inj x y e = cc

pub invariant_of-self : goal.invariant_of-self
invariant_of-self c = record {
  are_own =
      are_own-set _ _ _ _ (are_own-set _ _ _ _ c.args.self.now.are_own (c.args.self.now.are_own _))
      (λ x e. subst (λ k. IsOwnAdvance c.args.self.now.own.face.now k.glyph.0 k.advance) (some_inj _ x e)
      (subst (IsOwnAdvance c.args.self.now.own.face.now c.args.glyph.0) (sym (to_z-of_z w32 c.glyph_h_advance-advance.result (search))) c.glyph_h_advance-advance.ensures));
}
