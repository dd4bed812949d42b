-- The font of a number in a file.
use Rattle.std.specs.Prelude.{ℕ, List, Option, None, nat_lt, if◌then◌else◌}
use Rattle.font_tables.specs.Directory.{face_count, font_of}

-- where the table directory of the font of this number begins; none where the file has fewer fonts
abbrev pub numbered_font : List ℕ → ℕ → Option (List ℕ × ℕ)
numbered_font file index = if nat_lt index (face_count file) then font_of file index else None
