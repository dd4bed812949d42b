-- The words of a line of a batch.
use Rattle.std.specs.Prelude.{ℕ, ◌==◌, Bool, ◌||◌, not, List, [], ◌∷◌, length, if◌then◌else◌}
use Rattle.std.specs.List.{slice_split}

abbrev pub is_semicolon : ℕ → Bool
is_semicolon b = b == 59

-- whether a part is a word, where this many parts stand behind it: one that is not empty, or the last
abbrev pub is_word : List ℕ → ℕ → Bool
is_word part behind = (behind == 0) || not (length part == 0)

abbrev pub words_of : List (List ℕ) → List (List ℕ)
words_of [] = []
words_of (part ∷ parts) = if is_word part (length parts) then part ∷ words_of parts else words_of parts

-- the words between semicolons; semicolons in a row count as one, but the first word may be empty, and the last
abbrev pub words_of_parts : List (List ℕ) → List (List ℕ)
words_of_parts [] = []
words_of_parts (part ∷ parts) = part ∷ words_of parts

abbrev pub batch_words : List ℕ → List (List ℕ)
batch_words line = words_of_parts (slice_split is_semicolon line)
