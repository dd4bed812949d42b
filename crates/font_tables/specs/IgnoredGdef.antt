-- Tables `GDEF` that HarfBuzz ignores, by the sizes in bytes of `GDEF`, `GSUB` and `GPOS`.
use Rattle.std.specs.Prelude.{ℕ, List, [], ◌∷◌, Bool, ◌&&◌, nat_eq}
use Rattle.std.specs.List.{list_any}

abbrev pub has_sizes : ℕ → ℕ → ℕ → ℕ × ℕ × ℕ → Bool
has_sizes gdef gsub gpos sizes = nat_eq sizes.0 gdef && nat_eq sizes.1 gsub && nat_eq sizes.2 gpos

unfoldable pub ignored_sizes : List (ℕ × ℕ × ℕ)
ignored_sizes =
    (442, 2874, 42038)
    ∷ (430, 2874, 40662)
    ∷ (442, 2874, 39116)
    ∷ (430, 2874, 39374)
    ∷ (490, 3046, 41638)
    ∷ (478, 3046, 41902)
    ∷ (898, 12554, 46470)
    ∷ (910, 12566, 47732)
    ∷ (928, 23298, 59332)
    ∷ (940, 23310, 60732)
    ∷ (964, 23836, 60072)
    ∷ (976, 23832, 61456)
    ∷ (994, 24474, 60336)
    ∷ (1006, 24470, 61740)
    ∷ (1006, 24576, 61346)
    ∷ (1018, 24572, 62828)
    ∷ (1006, 24576, 61352)
    ∷ (1018, 24572, 62834)
    ∷ (832, 7324, 47162)
    ∷ (844, 7302, 45474)
    ∷ (180, 13054, 7254)
    ∷ (192, 12638, 7254)
    ∷ (192, 12690, 7254)
    ∷ (188, 248, 3852)
    ∷ (188, 264, 3426)
    ∷ (1058, 47032, 11818)
    ∷ (1046, 47030, 12600)
    ∷ (1058, 71796, 16770)
    ∷ (1046, 71790, 17862)
    ∷ (1046, 71788, 17112)
    ∷ (1058, 71794, 17514)
    ∷ (1330, 109904, 57938)
    ∷ (1330, 109904, 58972)
    ∷ (1004, 59092, 14836)
    ∷ (588, 5078, 14418)
    ∷ (588, 5078, 14238)
    ∷ (894, 17162, 33960)
    ∷ (894, 17154, 34472)
    ∷ (816, 7868, 17052)
    ∷ (816, 7868, 17138)
    ∷ []

-- whether the sizes are those of a font whose `GDEF` takes characters for marks that are none
unfoldable pub is_ignored : ℕ → ℕ → ℕ → Bool
is_ignored gdef gsub gpos = list_any (has_sizes gdef gsub gpos) ignored_sizes
