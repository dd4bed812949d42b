-- The items of an INDEX (The Compact Font Format Specification, "INDEX Data").
use Rattle.std.specs.Prelude.{ℕ, List, Option, Some, None, ◌==◌, ◌+◌, ◌*◌, nat_lt, if◌then◌else◌}
use Rattle.std.specs.Prelude.{option_map, option_and_then, unwrap_or}
use Rattle.font_tables.specs.Bytes.{byte_at, number_16}
use Rattle.font_variations.specs.IndexMap.{number_of_size}
use Rattle.outline_tables.specs.Glyf.{between}

-- how many items there are
abbrev pub index_count : List ℕ → ℕ
index_count bs = unwrap_or (number_16 bs 0) 0

-- how many bytes an offset has
abbrev pub offset_size : List ℕ → ℕ
offset_size bs = unwrap_or (byte_at bs 2) 0

-- the offset of a number: there is one more than there are items
abbrev pub index_offset : List ℕ → ℕ → Option ℕ
index_offset bs n = number_of_size (offset_size bs) bs (3 + offset_size bs * n)

-- the place that offsets count from: the last byte of the last offset, so that the first item is at offset 1
abbrev pub index_base : List ℕ → ℕ
index_base bs = 2 + offset_size bs * (index_count bs + 1)

-- the bytes of an item: from its offset up to the next one
unfoldable pub index_item : List ℕ → ℕ → Option (List ℕ)
index_item bs n =
    if nat_lt n (index_count bs)
    then option_and_then (λ start. option_map (λ end. between bs (index_base bs + start) (index_base bs + end))
    (index_offset bs (n + 1))) (index_offset bs n) else None

-- how many bytes the INDEX has: one without items is its count alone
unfoldable pub index_size : List ℕ → Option ℕ
index_size bs =
    option_and_then (λ count. if count == 0 then Some 2 else option_map (λ end. index_base bs + end) (index_offset bs count))
    (number_16 bs 0)
