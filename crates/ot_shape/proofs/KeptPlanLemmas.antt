-- Plans that are kept.
use Rattle.std.proofs.Common.{◌≡◌, ℕ, List, Option, Result, refl}
use Rattle.std.specs.Prelude.{None, Some, Ok, Err, Any, IfOk, IsSomeAnd, slice_get}
use Rattle.std.proofs.lemmas.Option.{slice_get_within, get_or_from_slice_get}

-- what holds in any case is said of an answer too
pub of_all : {A E P : Type 0} (r : Result A E) → P → IfOk r (λ _. P)
of_all (Ok a) h = h
of_all (Err x) h = tt

found_there : {X : Type 0} (P : X → Type 0) (xs : List X) (i : ℕ) (o : Option X) → slice_get xs i ≡ o → IsSomeAnd o P → Any P xs
found_there P xs i None e h = absurd h
found_there P xs i (Some x) e h = (i, x, slice_get_within xs i x e, get_or_from_slice_get xs i x x e, h)

-- what is found at a place is there
pub any_there : {X : Type 0} (P : X → Type 0) (xs : List X) (i : ℕ) → IsSomeAnd (slice_get xs i) P → Any P xs
any_there P xs i h = found_there P xs i (slice_get xs i) refl h
