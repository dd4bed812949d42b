-- What a character is taken into and what two compose to, by the rules of a script, by that of Hangul, or by Unicode's data.
use Rattle.std.proofs.Common.{◌≡◌, ℕ, inl, inr, Bool, true, false, Option, Some, ap, ◌∙◌, sym}
use Rattle.std.proofs.lemmas.Bool.{cond-true, cond-false, cases_Bool}
use Rattle.rb_glyph.specs.Hangul.{HangulComposes}
use Rattle.ucd_normal.specs.Decomposition.{canonical_mapping}
use Rattle.unicode_tables.specs.Mapping as mapping
use Rattle.script_shapers.specs.Shapers.{has_own_parts, own_parts, has_own_composite, own_composite, other_composite}
use Rattle.script_shapers.specs.declared.shaper.ScriptShaper.{ScriptShaper}
use Rattle.shaping_passes.proofs.NormalizationPartsLemmas.{decomposed_is, composed_is}
use Rattle.ot_normalization.specs.FontRules.{with_zero, parts_of_char, composite_of}

pub with_zero-parts_of_char : (shaper : ScriptShaper) (c : ℕ) (r : Option (ℕ × Option ℕ))
    → (has_own_parts shaper c ≡ true → r ≡ own_parts shaper c)
    → (has_own_parts shaper c ≡ false → (a b : ℕ) → HangulComposes c a b → r ≡ Some (a, Some b))
    → (has_own_parts shaper c ≡ false → ((a b : ℕ) → ¬ HangulComposes c a b)
    → r ≡ mapping.parts_of (canonical_mapping c))
    → with_zero r ≡ parts_of_char shaper c
unfolding parts_of_char
with_zero-parts_of_char shaper c r own hangul table = elim (cases_Bool (has_own_parts shaper c)) [
  | inl is_own ↦ ap with_zero (own is_own) ∙ sym (cond-true _ _ _ is_own)
  | inr is_not ↦ decomposed_is c (with_zero (mapping.parts_of (canonical_mapping c))) (with_zero r)
      (λ a b made. ap with_zero (hangul is_not a b made)) (λ none. ap with_zero (table is_not none))
      ∙ sym (cond-false _ _ _ is_not)
]

pub composite_is : (shaper : ScriptShaper) (has_gpos_mark : Bool) (a b : ℕ) (r : Option ℕ)
    → (has_own_composite shaper a b ≡ true → r ≡ own_composite shaper a b)
    → (has_own_composite shaper a b ≡ false → (s : ℕ) → HangulComposes s a b → r ≡ Some s)
    → (has_own_composite shaper a b ≡ false → ((s : ℕ) → ¬ HangulComposes s a b)
    → r ≡ other_composite shaper has_gpos_mark a b)
    → r ≡ composite_of shaper has_gpos_mark a b
unfolding composite_of
composite_is shaper has_gpos_mark a b r own hangul table = elim (cases_Bool (has_own_composite shaper a b)) [
  | inl is_own ↦ own is_own ∙ sym (cond-true _ _ _ is_own)
  | inr is_not ↦ composed_is a b (other_composite shaper has_gpos_mark a b) r (hangul is_not) (table is_not) ∙ sym (cond-false _ _ _ is_not)
]
