-- A walk that maps a list in its place.
use Rattle.std.proofs.Common.{◌≡◌, ℕ, ◌+◌, ◌<◌, ◌≤◌, List, [], ◌∷◌, ◌++◌, length, get_or, map, take, drop, set, sym, ap}
use Rattle.std.proofs.Common.{◌∙◌, arith}
use Rattle.std.proofs.lemmas.List.{length-take-le, take_more, drop_more, set_at, get_or_at, map_push, append-nil}
use Rattle.std.proofs.lemmas.List.{append_assoc, length-map, take_all, drop_all}

-- the list with f applied to its first n items
abbrev pub mapped : {X : Type 0} → (X → X) → ℕ → List X → List X
mapped f n l = map f (take n l) ++ drop n l

module _ {X : Type 0} (f : X → X) (l : List X) (n : ℕ) where
  front : n ≤ length l → length (map f (take n l)) ≡ n
  front h = length-map (take n l) f ∙ length-take-le n l h

  -- the next item is as it was
  pub mapped_at : (d : X) → n < length l → get_or (mapped f n l) n d ≡ get_or l n d
  mapped_at d h =
      ap (λ xs. get_or (map f (take n l) ++ xs) n d) (drop_more l n d h)
      ∙ get_or_at (map f (take n l)) (get_or l n d) (drop (n + 1) l) d n (front (omega arith))

  pub mapped_more : (y d : X) → n < length l → y ≡ f (get_or l n d) → set (mapped f n l) n y ≡ mapped f (n + 1) l
  mapped_more y d h e =
      ap (λ xs. set (map f (take n l) ++ xs) n y) (drop_more l n d h)
      ∙ set_at (map f (take n l)) (get_or l n d) (drop (n + 1) l) y n (front (omega arith))
      ∙ ap (λ z. map f (take n l) ++ z ∷ drop (n + 1) l) e
      ∙ sym (append_assoc (map f (take n l)) (f (get_or l n d) ∷ []) (drop (n + 1) l))
      ∙ ap (λ xs. xs ++ drop (n + 1) l) (sym (ap (map f) (take_more l n d h) ∙ map_push f (take n l) (get_or l n d)))

  pub mapped_all : length l ≤ n → mapped f n l ≡ map f l
  mapped_all h = ap (λ xs. map f xs ++ drop n l) (take_all n l h) ∙ ap (λ xs. map f l ++ xs) (drop_all n l h)
      ∙ append-nil (map f l)

pub ruleset walks = (mapped_at, mapped_more, mapped_all)
