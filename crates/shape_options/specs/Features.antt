-- The features of a list, which commas and spaces part.
use Rattle.std.specs.Prelude.{ℕ, ◌≡◌, ◌==◌, ◌⊎◌, Bool, List, [], ◌∷◌, ◌++◌, flat_map}
use Rattle.std.specs.List.{slice_split}
use Rattle.rb_text.specs.declared.feature.Feature.{Feature}
use Rattle.rb_text.specs.Feature.{ReadsAs}

abbrev pub is_comma : ℕ → Bool
is_comma b = b == 44

abbrev pub is_space : ℕ → Bool
is_space b = b == 32

-- the texts of a list: commas part it, and spaces
abbrev pub texts_in : List ℕ → List (List ℕ)
texts_in list = flat_map (slice_split is_space) (slice_split is_comma list)

-- a text reads as a feature, which comes first
pub record IsFirst (text : List ℕ) (features later : List Feature) : Type 0 where
  pub feature : Feature
  pub reads : ReadsAs text feature
  pub is : features ≡ feature ∷ later

-- the features of texts, in their order: a text that reads as none is left out
abbrev pub Reads : List (List ℕ) → List Feature → Type 0
Reads [] features = features ≡ []
Reads (text ∷ texts) features =
    ((later : List Feature) × IsFirst text features later × Reads texts later)
    ⊎ (((f : Feature) → ¬ ReadsAs text f) × Reads texts features)

-- features are read from texts and stand behind those that were there
abbrev pub AddsFeatures : List Feature → List Feature → List (List ℕ) → Type 0
AddsFeatures old new texts = (features : List Feature) × Reads texts features × (new ≡ old ++ features)
