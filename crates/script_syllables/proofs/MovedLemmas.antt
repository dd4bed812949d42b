-- The clusters of a list of which a part is written anew.
use Rattle.std.proofs.Common.{◌≡◌, ℕ, List, ◌++◌, take, drop, sym, ap, ◌∙◌, subst}
use Rattle.std.proofs.lemmas.List.{take-append-drop, map-append}
use Rattle.std.proofs.lemmas.List.Sorted.{IsPermutation-refl, IsPermutation-trans, IsPermutation-put_mid, IsPermutation-map}
use Rattle.std.proofs.lemmas.List.Sorted.{IsPermutation-append_left, IsPermutation-append_right}
use Rattle.std.specs.List.Sorted.{IsPermutation}
use borrow.Rule.Slice.PartMut.{put_mid, mid_of}
use Rattle.rb_glyph.specs.declared.info.hb_glyph_info_t.{hb_glyph_info_t}
use Rattle.glyph_lists.specs.Clusters.{clusters}
use Rattle.shaping_buffer.proofs.ClosedKeepsLemmas.{clusters_written}
use Rattle.script_syllables.specs.KeepsNumbers.{SameClusters}

-- ---- the same clusters, place by place

-- a list in its three parts
put_mid-mid_of : (a k : ℕ) (xs : List hb_glyph_info_t) → put_mid a k xs (mid_of a k xs) ≡ xs
put_mid-mid_of a k xs = ap (λ l. take a xs ++ l) (take-append-drop k (drop a xs)) ∙ take-append-drop a xs

clusters-put_mid : (a k : ℕ) (xs ys : List hb_glyph_info_t)
    → clusters (put_mid a k xs ys) ≡ clusters (take a xs) ++ (clusters ys ++ clusters (drop k (drop a xs)))
clusters-put_mid a k xs ys =
    map-append (λ g. g.cluster) (take a xs) (ys ++ drop k (drop a xs))
    ∙ ap (λ cs. clusters (take a xs) ++ cs) (map-append (λ g. g.cluster) ys (drop k (drop a xs)))

pub clusters_part : (a k : ℕ) (xs ys : List hb_glyph_info_t) → clusters ys ≡ clusters (mid_of a k xs)
    → clusters (put_mid a k xs ys) ≡ clusters xs
clusters_part a k xs ys e =
    clusters-put_mid a k xs ys ∙ ap (λ cs. clusters (take a xs) ++ (cs ++ clusters (drop k (drop a xs)))) e
    ∙ sym (clusters-put_mid a k xs (mid_of a k xs)) ∙ ap clusters (put_mid-mid_of a k xs)

-- what search closes by
pub ruleset same = (clusters_part, clusters_written)

-- ---- the same items, in another order

pub ruleset moves = (IsPermutation-refl, IsPermutation-trans, IsPermutation-put_mid)

-- ---- the same clusters, in another order

pub same_none : (xs : List hb_glyph_info_t) → SameClusters xs xs
same_none xs = IsPermutation-refl (clusters xs)

pub same_then : (xs ys zs : List hb_glyph_info_t) → SameClusters xs ys → SameClusters ys zs → SameClusters xs zs
same_then xs ys zs a b = IsPermutation-trans (clusters xs) (clusters ys) (clusters zs) a b

pub same_alike : (xs ys : List hb_glyph_info_t) → clusters ys ≡ clusters xs → SameClusters xs ys
same_alike xs ys e = subst (IsPermutation (clusters xs)) (sym e) (IsPermutation-refl (clusters xs))

pub same_moved : (xs ys : List hb_glyph_info_t) → IsPermutation xs ys → SameClusters xs ys
same_moved xs ys moved = IsPermutation-map (λ g. g.cluster) xs ys moved

pub same_part : (a k : ℕ) (xs ys : List hb_glyph_info_t) → SameClusters (mid_of a k xs) ys
    → SameClusters xs (put_mid a k xs ys)
same_part a k xs ys h =
    let rest = clusters (drop k (drop a xs)) in
    subst (λ cs. IsPermutation cs (clusters (put_mid a k xs ys)))
    (sym (clusters-put_mid a k xs (mid_of a k xs)) ∙ ap clusters (put_mid-mid_of a k xs))
    (subst (IsPermutation (clusters (take a xs) ++ (clusters (mid_of a k xs) ++ rest)))
    (sym (clusters-put_mid a k xs ys))
    (IsPermutation-append_right (clusters (take a xs)) (clusters (mid_of a k xs) ++ rest) (clusters ys ++ rest)
    (IsPermutation-append_left rest (clusters (mid_of a k xs)) (clusters ys) h)))

pub ruleset moved = (same_none, same_then, same_alike, same_moved, same_part)
