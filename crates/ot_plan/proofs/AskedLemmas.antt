-- Lists of features, compared place by place.
use Rattle.std.proofs.Common.{◌≡◌, ◌<◌, ℕ, List, length, map, sym, ap, ◌∙◌, arith, slice_index_or}
use Rattle.std.specs.Prelude.{get_or}
use Rattle.std.proofs.lemmas.List.{ext_get_or, get_or-map, length-map}
use Rattle.rb_text.specs.declared.feature.Feature.{Feature}

-- what is read where there is nothing
abbrev pub nothing : Feature
nothing = record { tag = record { 0 = 0 }; value = 0; start = 0; end = 0 }

-- a feature read by its place
abbrev pub at : List Feature → ℕ → Feature
at l i = slice_index_or l i nothing

-- the same is made of each of the first so many
abbrev pub AreAlike : (Feature → Feature) → List Feature → List Feature → ℕ → Type 0
AreAlike f one other n = (i : ℕ) → i < n → f (at one i) ≡ f (at other i)

pub map-alike : (f : Feature → Feature) (one other : List Feature) → length one ≡ length other
    → AreAlike f one other (length one) → map f one ≡ map f other
map-alike f one other e s =
    ext_get_or (f nothing) (map f one) (map f other) (length-map one f ∙ e ∙ sym (length-map other f))
    (λ i l. let inside : i < length one = rw (length-map one f) at l in
    get_or-map f one i nothing (f nothing) inside ∙ s i inside ∙ sym (get_or-map f other i nothing (f nothing) (omega arith)))

pub alike_there : (f : Feature → Feature) (one other : List Feature) (i : ℕ) → i < length one → length one ≡ length other
    → map f one ≡ map f other → f (at one i) ≡ f (at other i)
alike_there f one other i l e s =
    sym (get_or-map f one i nothing (f nothing) l) ∙ ap (λ m. get_or m i (f nothing)) s
    ∙ get_or-map f other i nothing (f nothing) (omega arith)
