-- Tables of the OpenType tags of languages: rows of a key and a tag.
use Rattle.std.specs.Prelude.{ℕ, ◌==◌, ◌&&◌, ◌||◌, List, [], ◌∷◌, Bool, true, if◌then◌else◌, not, nat_lt}
use Rattle.std.specs.Prelude.{length, Option, Some, None, map, filter, take}
use Rattle.std.specs.List.{list_all, before_first}
use Rattle.std.specs.Ordering.{nat_cmp, is_lt}
use Rattle.std.specs.Cmp.Lexicographic.{slice_cmp}
use Rattle.std.specs.Char.{is_ascii_lowercase, is_ascii_digit}
use Rattle.std.specs.Borrow.{Bor}
use Rattle.std.specs.Str.{bytes_eq}
use Rattle.rb_common.specs.declared.tag.Tag.{Tag}

-- the rows by the bytes of their keys and the numbers of their tags
abbrev pub rows_of : List (Bor (List ℕ) × Tag) → List (List ℕ × ℕ)
rows_of rows = map (λ row. (row.0.now, row.1.0)) rows

-- a key is some small ASCII letters and digits
abbrev pub is_key : List ℕ → Bool
is_key key = nat_lt 0 (length key) && list_all (λ b. is_ascii_lowercase b || is_ascii_digit b) key

-- whether a key is below another in the order of their bytes
abbrev pub is_below : List ℕ → List ℕ → Bool
is_below a b = is_lt (slice_cmp nat_cmp a b)

-- whether the key of the first row, if there is one, is not below this one
abbrev pub is_followed_by : List ℕ → List (List ℕ × ℕ) → Bool
is_followed_by key [] = true
is_followed_by key (next ∷ rows) = not (is_below next.0 key)

-- the rule of tables: each row has a key, and no key is below the one before it
abbrev pub is_table : List (List ℕ × ℕ) → Bool
is_table [] = true
is_table (row ∷ rows) = is_key row.0 && is_followed_by row.0 rows && is_table rows

-- the rows with the key, in order
abbrev pub rows_with : List ℕ → List (List ℕ × ℕ) → List (List ℕ × ℕ)
rows_with key rows = filter (λ row. bytes_eq row.0 key) rows

-- the tags of rows, in order, up to a null tag
abbrev pub tags_before_null : List (List ℕ × ℕ) → List ℕ
tags_before_null rows = before_first (λ tag. tag == 0) (map (λ row. row.1) rows)

-- the tags of rows up to a null tag and at most three; `None` where there is no row
abbrev pub tags_of_rows : List (List ℕ × ℕ) → Option (List ℕ)
tags_of_rows [] = None
tags_of_rows (row ∷ rows) = Some (take 3 (tags_before_null (row ∷ rows)))

-- the tags that a table has for a key
abbrev pub tags_of_key : List ℕ → List (List ℕ × ℕ) → Option (List ℕ)
tags_of_key key rows = tags_of_rows (rows_with key rows)

-- the tags of the front rows, as long as their key is this one and the tag is not null
abbrev pub front_tags : List ℕ → List (List ℕ × ℕ) → List ℕ
front_tags key [] = []
front_tags key (row ∷ rows) = if bytes_eq row.0 key && not (row.1 == 0) then row.1 ∷ front_tags key rows else []
