-- Features that are read from texts, and from more texts.
use Rattle.std.proofs.Common.{ℕ, ◌≡◌, inl, inr, List, [], ◌∷◌, ◌++◌, sym, ap, subst, ◌∙◌, append_assoc, append-nil}
use Rattle.std.proofs.Common.{◌+◌, ◌<◌, ◌≤◌, length, take, map, flat_map, get_or, Bor}
use Rattle.std.proofs.lemmas.List.{take_more, map-append, take_all}
use Rattle.std.proofs.lemmas.Grind.{flat_map-append}
use Rattle.rb_text.specs.declared.feature.Feature.{Feature}
use Rattle.shape_options.specs.Features.{Reads, AddsFeatures}

reads-append : (xs ys : List (List ℕ)) (fs gs : List Feature) → Reads xs fs → Reads ys gs
    → Reads (xs ++ ys) (fs ++ gs)
reads-append [] ys fs gs p q =
    let P : List Feature → Type 0 = λ l. Reads ys (l ++ gs) in subst P (sym p) q
reads-append (x ∷ xs) ys fs gs (inl p) q =
    inl (
      p.0 ++ gs,
      record {
        feature = p.1.feature;
        reads = p.1.reads;
        is = ap (λ l. l ++ gs) p.1.is;
      },
      reads-append xs ys p.0 gs p.2 q,
    )
reads-append (x ∷ xs) ys fs gs (inr p) q = inr (p.0, reads-append xs ys fs gs p.1 q)

pub adds-append : (a b c : List Feature) (xs ys : List (List ℕ)) → AddsFeatures a b xs → AddsFeatures b c ys
    → AddsFeatures a c (xs ++ ys)
adds-append a b c xs ys p q =
    (p.0 ++ q.0, reads-append xs ys p.0 q.0 p.1 q.1, q.2 ∙ ap (λ l. l ++ q.0) p.2 ∙ append_assoc a p.0 q.0)

-- one text more
map-take_more : (items : List (Bor (List ℕ))) (i : ℕ) (d : Bor (List ℕ)) → i < length items
    → map (λ t. t.now) (take (i + 1) items) ≡ map (λ t. t.now) (take i items) ++ (get_or items i d).now ∷ []
map-take_more items i d h =
    ap (map (λ t. t.now)) (take_more items i d h) ∙ map-append (λ t. t.now) (take i items) (get_or items i d ∷ [])

pub adds_one_more : (a b c : List Feature) (items : List (Bor (List ℕ))) (i : ℕ) (d : Bor (List ℕ)) → i < length items
    → AddsFeatures a b (map (λ t. t.now) (take i items)) → AddsFeatures b c ((get_or items i d).now ∷ [])
    → AddsFeatures a c (map (λ t. t.now) (take (i + 1) items))
adds_one_more a b c items i d h p q =
    subst (AddsFeatures a c) (sym (map-take_more items i d h))
    (adds-append a b c (map (λ t. t.now) (take i items)) ((get_or items i d).now ∷ []) p q)

-- the texts of one part more
pub adds_part_more : (f : List ℕ → List (List ℕ)) (a b c : List Feature) (items : List (Bor (List ℕ))) (i : ℕ)
    (d : Bor (List ℕ)) → i < length items → AddsFeatures a b (flat_map f (map (λ t. t.now) (take i items)))
    → AddsFeatures b c (f (get_or items i d).now)
    → AddsFeatures a c (flat_map f (map (λ t. t.now) (take (i + 1) items)))
adds_part_more f a b c items i d h p q =
    let before = map (λ t. t.now) (take i items) in
    let one = (get_or items i d).now in
    let more : flat_map f (map (λ t. t.now) (take (i + 1) items)) ≡ flat_map f before ++ f one =
    ap (flat_map f) (map-take_more items i d h) ∙ flat_map-append f before (one ∷ [])
    ∙ ap (λ l. flat_map f before ++ l) (append-nil (f one)) in
    subst (AddsFeatures a c) (sym more) (adds-append a b c (flat_map f before) (f one) p q)

-- the texts of all parts
pub reads_whole : (f : List ℕ → List (List ℕ)) (features : List Feature) (items : List (Bor (List ℕ))) (i : ℕ)
    (parts : List (List ℕ)) → AddsFeatures [] features (flat_map f (map (λ t. t.now) (take i items)))
    → length items ≤ i → map (λ t. t.now) items ≡ parts → Reads (flat_map f parts) features
reads_whole f features items i parts p whole e =
    let texts : flat_map f (map (λ t. t.now) (take i items)) ≡ flat_map f parts =
    ap (λ l. flat_map f (map (λ t. t.now) l)) (take_all i items whole) ∙ ap (flat_map f) e in
    let read : Reads (flat_map f (map (λ t. t.now) (take i items))) features =
    subst (Reads (flat_map f (map (λ t. t.now) (take i items)))) (sym p.2) p.1 in
    subst (λ texts. Reads texts features) texts read
