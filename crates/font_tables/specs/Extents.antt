-- The tables `hhea`, `vhea` and `OS/2`, as far as shaping asks for them.
use Rattle.std.specs.Prelude.{ℕ, List, Option, None, Bool, ◌/◌, ◌%◌, ◌+◌, ◌&&◌, if◌then◌else◌, nat_eq, nat_le, length, unwrap_or, pos}
use Rattle.std.specs.Prelude.{option_map, option_and_then, false, true, neg_ℤ, nat_abs}
use Rattle.font_tables.specs.declared.extents.FontExtents.{FontExtents}
use Rattle.font_tables.specs.Bytes.{number_16, signed_16, is_number}

-- a table `hhea` or `vhea` has 36 bytes and the major version 1
abbrev pub is_header : List ℕ → Bool
is_header table = nat_le 36 (length table) && is_number (number_16 table 0) 1

-- how many glyphs have an advance of their own
unfoldable pub long_metric_count : List ℕ → ℕ
long_metric_count table = if is_header table then unwrap_or (number_16 table 34) 0 else 0

-- how many bytes a table `OS/2` has at least, by its version
abbrev pub os2_size : ℕ → ℕ
os2_size version = if nat_le 5 version then 100 else if nat_le 2 version then 96 else if nat_le 1 version then 86 else 78

abbrev pub is_os2 : List ℕ → Bool
is_os2 os2 = nat_le (os2_size (unwrap_or (number_16 os2 0) 0)) (length os2)

-- a table that is filled in has a weight class, a width class, a first or a last character
abbrev pub is_filled_in : List ℕ → Bool
is_filled_in os2 =
    if is_number (number_16 os2 4) 0 && is_number (number_16 os2 6) 0 && is_number (number_16 os2 64) 0
    && is_number (number_16 os2 66) 0
    then false else true

-- bit 7 of the selection flags: the typographic ascender and descender are those of a line
abbrev pub uses_typo_metrics : List ℕ → Bool
uses_typo_metrics os2 = nat_eq (unwrap_or (number_16 os2 62) 0 / 128 % 2) 1

-- an ascender is above the baseline and a descender below it, whatever their signs
abbrev pub extents_at : List ℕ → ℕ → Option FontExtents
extents_at table at =
    option_and_then (λ ascender. option_map (λ descender.
    record { ascender = pos (nat_abs ascender); descender = neg_ℤ (pos (nat_abs descender)) })
    (signed_16 table (at + 2))) (signed_16 table at)

-- the ascender and the descender of horizontal lines, of `OS/2` or of `hhea`; `None` where neither has them
unfoldable pub horizontal_extents : List ℕ → List ℕ → Option FontExtents
horizontal_extents os2 hhea =
    if is_os2 os2 && uses_typo_metrics os2 && is_filled_in os2 then extents_at os2 68
    else if is_header hhea then extents_at hhea 4 else None
