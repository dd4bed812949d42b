-- Lookups and digests that have no glyph in common.
use Rattle.std.proofs.Common.{◌≡◌, ℕ, true, false, refl, inl, inr}
use Rattle.std.proofs.lemmas.Bool.{cases_Bool}
use Rattle.std.specs.Prelude.{IsTrue}
use Rattle.glyph_digests.specs.Digest.{may_have}
use Rattle.glyph_digests.specs.declared.digest.Digest.{Digest}
use Rattle.ot_lookups.specs.Lookup.{IsForNone}
use Rattle.ot_lookups.specs.declared.lookup_list.Lookup.{Lookup}

pub apart : (lookup : Lookup) (d : Digest)
    → ((g : ℕ) → may_have lookup.digest g ≡ true → may_have d g ≡ true → IsTrue false) → IsForNone lookup d
apart lookup d none = λ g has mask.
    elim (cases_Bool (may_have lookup.digest g.glyph_id)) [
      | inl both ↦ let met = none g.glyph_id both has in cc
      | inr other ↦ rw other refl
    ]
