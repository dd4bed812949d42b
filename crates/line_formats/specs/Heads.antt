-- What `hb-shape` prints before the answer to a line.
use Rattle.std.specs.Prelude.{ℕ, List, [], ◌++◌, codes, if◌then◌else◌}
use Rattle.std.specs.Fmt.{decimal}
use Rattle.line_formats.specs.declared.heads.Shown.{Shown}

-- the number of the line, a colon and a space
abbrev pub number_before : Shown → ℕ → List ℕ
number_before shown n = if shown.number then decimal n ++ codes ": " else []

-- the line in parentheses
abbrev pub text_line : Shown → ℕ → List ℕ → List ℕ
text_line shown n line = if shown.text then number_before shown n ++ codes "(" ++ line ++ codes ")\n" else []

-- the list of its characters
abbrev pub characters_line : Shown → ℕ → List ℕ → List ℕ
characters_line shown n characters =
    if shown.characters then number_before shown n ++ characters ++ codes "\n" else []

-- both, where they are shown, and the number
abbrev pub head : Shown → ℕ → List ℕ → List ℕ → List ℕ
head shown n line characters = text_line shown n line ++ characters_line shown n characters ++ number_before shown n
