-- The items of an INDEX of the table `CFF2`, whose count has 32 bits, and the subroutines among them.
use Rattle.std.specs.Prelude.{ℕ, ℤ, pos, negsuc, ◌+ℤ◌, List, Option, None, ◌+◌, ◌*◌, nat_lt, if◌then◌else◌}
use Rattle.std.specs.Prelude.{option_map, option_and_then, unwrap_or}
use Rattle.font_tables.specs.Bytes.{byte_at, number_32}
use Rattle.font_variations.specs.IndexMap.{number_of_size}
use Rattle.outline_tables.specs.Glyf.{between}
use Rattle.outline_tables.specs.Subroutines.{bias}

-- how many items there are
abbrev pub count_2 : List ℕ → ℕ
count_2 bs = unwrap_or (number_32 bs 0) 0

-- how many bytes an offset has
abbrev pub offset_size_2 : List ℕ → ℕ
offset_size_2 bs = unwrap_or (byte_at bs 4) 0

-- the offset of a number: there is one more than there are items
abbrev pub offset_2 : List ℕ → ℕ → Option ℕ
offset_2 bs n = number_of_size (offset_size_2 bs) bs (5 + offset_size_2 bs * n)

-- the place that offsets count from: the last byte of the last offset, so that the first item is at offset 1
abbrev pub base_2 : List ℕ → ℕ
base_2 bs = 4 + offset_size_2 bs * (count_2 bs + 1)

-- the bytes of an item: from its offset up to the next one
unfoldable pub item_2 : List ℕ → ℕ → Option (List ℕ)
item_2 bs n =
    if nat_lt n (count_2 bs)
    then option_and_then (λ start. option_map (λ end. between bs (base_2 bs + start) (base_2 bs + end))
    (offset_2 bs (n + 1))) (offset_2 bs n) else None

-- the item at a place, which is none before the first
abbrev pub item_at_2 : List ℕ → ℤ → Option (List ℕ)
item_at_2 index (pos place) = item_2 index place
item_at_2 index (negsuc _) = None

-- the subroutine that a number calls
unfoldable pub subroutine_2 : List ℕ → ℤ → Option (List ℕ)
subroutine_2 index number = item_at_2 index (number +ℤ pos (bias (count_2 index)))
