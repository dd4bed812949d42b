-- Numbers in DICT data and in charstrings (The Compact Font Format Specification, "DICT Data", and The Type 2 Charstring
-- Format, "Charstring Number Encoding").
use Rattle.std.specs.Prelude.{ℕ, zero, suc, ℤ, pos, Bool, true, false, ◌&&◌, ◌||◌, List, Option, Some, None, ◌==◌, ◌+◌, ◌-◌, ◌*◌, ◌/◌, ◌%◌, ◌-ℤ◌, ◌^◌, length, min, nat_le, drop, position, if◌then◌else◌}
use Rattle.std.specs.Prelude.{option_map, option_and_then}
use Rattle.std.specs.Int.{cast_signed, w32}
use Rattle.font_tables.specs.Bytes.{byte_at, number_32, signed_16}
use Rattle.outline_tables.specs.declared.dict.Dict.{Dict}
use Rattle.outline_tables.specs.declared.dict.Numbers.{Numbers}
use Rattle.outline_tables.specs.declared.dict.Token.{Token}
use Rattle.outline_tables.specs.declared.dict.Token.TheVariants.{Number, Operator}

-- a number from one to another
abbrev pub is_from : ℕ → ℕ → ℕ → Bool
is_from low high n = nat_le low n && nat_le n high

-- the number that begins with a byte
abbrev pub number_from : List ℕ → ℕ → Option ℤ
number_from bs first =
    if first == 28 then signed_16 bs 1
    else if is_from 32 246 first then Some (pos first -ℤ pos 139)
    else if is_from 247 250 first
    then option_map (λ second. pos ((first - 247) * 256 + second + 108)) (byte_at bs 1)
    else if is_from 251 254 first
    then option_map (λ second. pos 0 -ℤ pos ((first - 251) * 256 + second + 108)) (byte_at bs 1)
    else None

-- the number at the front
unfoldable pub number : List ℕ → Option ℤ
number bs = option_and_then (number_from bs) (byte_at bs 0)

-- how many bytes a number has that begins with a byte
abbrev pub number_length : ℕ → ℕ
number_length first = if first == 28 then 3 else if nat_le first 246 then 1 else 2

-- what follows a real number of DICT data, which ends at the first byte of which a half is 15
abbrev pub real_end : List ℕ → Option ℕ
real_end bs = position (λ byte. byte / 16 == 15 || byte % 16 == 15) bs

abbrev pub behind_real : List ℕ → Option (List ℕ)
behind_real bs = option_map (λ end. drop (end + 1) bs) (real_end bs)

-- whether a byte begins a number that charstrings have too
abbrev pub is_shared : ℕ → Bool
is_shared first = first == 28 || is_from 32 254 first

-- the number or the operator at the front of DICT data: an operator of two bytes is 256 more than its second, a real number counts as 0
abbrev pub token_from : List ℕ → ℕ → Option Token
token_from bs first =
    if first == 12 then option_map (λ second. Operator (256 + second)) (byte_at bs 1)
    else if first == 29 then option_map (λ n. Number (cast_signed w32 n)) (number_32 bs 1)
    else if first == 30 then option_map (λ _. Number (pos 0)) (behind_real (drop 1 bs))
    else if is_shared first then option_map (λ n. Number n) (number bs) else Some (Operator first)

abbrev pub token : List ℕ → Option Token
token bs = option_and_then (token_from bs) (byte_at bs 0)

-- what follows it
abbrev pub behind_first : List ℕ → ℕ → Option (List ℕ)
behind_first bs first =
    if first == 12 then Some (drop 2 bs)
    else if first == 29 then Some (drop 5 bs)
    else if first == 30 then behind_real (drop 1 bs)
    else if is_shared first then Some (drop (number_length first) bs) else Some (drop 1 bs)

abbrev pub behind_token : List ℕ → Option (List ℕ)
behind_token bs = option_and_then (behind_first bs) (byte_at bs 0)

-- how many numbers an operator of DICT data takes, of those that outlines need: charset, CharStrings, Private, Subrs, FDArray, FDSelect
abbrev pub takes : ℕ → ℕ
takes operator =
    if operator == 18 then 2
    else if operator == 15 || (operator == 17 || (operator == 19 || (operator == 256 + 36 || operator == 256 + 37))) then 1 else 0

-- what a DICT says behind an operator
abbrev pub said : Dict → ℕ → Numbers → Dict
said dict operator ns =
    if operator == 15 then record dict { charset = ns.last }
    else if operator == 17 then record dict { char_strings = ns.last }
    else if operator == 18 then record dict { private_size = ns.before; private_offset = ns.last }
    else if operator == 19 then record dict { subroutines = ns.last }
    else if operator == 22 then record dict { variation_set = ns.last }
    else if operator == 24 then record dict { variation_store = ns.last }
    else if operator == 256 + 30 then record dict { is_cid = true }
    else if operator == 256 + 36 then record dict { font_dicts = ns.last }
    else if operator == 256 + 37 then record dict { font_dict_select = ns.last } else dict

-- a DICT that says nothing, no numbers, and numbers with one more
abbrev pub no_dict : Dict
no_dict = record {
  charset = pos 0;
  char_strings = pos 0;
  private_size = pos 0;
  private_offset = pos 0;
  subroutines = pos 0;
  font_dicts = pos 0;
  font_dict_select = pos 0;
  variation_store = pos 0;
  variation_set = pos 0;
  is_cid = false;
}

abbrev pub no_numbers : Numbers
no_numbers = record { count = 0; last = pos 0; before = pos 0 }

abbrev pub with_number : Numbers → ℤ → Numbers
with_number ns n = record { count = min (ns.count + 1) (2 ^ 64 - 1); last = n; before = ns.last }

-- what is said behind a number or an operator, and the numbers behind it; `None` where an operator has too few
abbrev pub behind_one : Dict → Numbers → Token → Option (Dict × Numbers)
behind_one dict ns (Number n) = Some (dict, with_number ns n)
behind_one dict ns (Operator operator) =
    if nat_le (takes operator) ns.count then Some (said dict operator ns, no_numbers) else None

-- what is said at the end of bytes, of so many numbers and operators at most
unfoldable pub said_by : ℕ → Dict → Numbers → List ℕ → Option Dict
said_by zero dict ns bs = Some dict
said_by (suc n) dict ns bs =
    if length bs == 0 then Some dict
    else option_and_then (λ t. option_and_then (λ so. option_and_then (said_by n so.0 so.1) (behind_token bs)) (behind_one dict ns t))
    (token bs)

-- what DICT data say, of which each number or operator has a byte at least; `None` where they are broken
abbrev pub dict_of : List ℕ → Option Dict
dict_of bs = said_by (length bs) no_dict no_numbers bs
