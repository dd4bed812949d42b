-- The characters in a text that writes them by their numbers, as in `U+0041,U+0301`.
use Rattle.std.specs.Prelude.{ℕ, ◌+◌, ◌*◌, ◌%◌, ◌^◌, ◌==◌, Bool, true, false, ◌&&◌, ◌||◌, List, [], ◌∷◌, ◌++◌, Option, Some, None, codes}
use Rattle.std.specs.Prelude.{nat_lt, option_map, option_and_then, option_to_list, if◌then◌else◌, flat_map, replicate}
use Rattle.std.specs.Prelude.{encode_utf8}
use Rattle.std.specs.Char.{digit_value}
use Rattle.std.specs.List.{list_any}
use Rattle.shape_options.specs.declared.code_points.Reading.{Reading}
use Rattle.shape_options.specs.declared.code_points.Reading.TheVariants.{Between, Zero, ZeroX, Number}
use lib.Utf8.{scalar}

-- what parts numbers: spaces, the signs of lists, and the letters of `U+`, `\u`, `&#x` and `uni`
abbrev pub is_delimiter : ℕ → Bool
is_delimiter b = list_any (λ d. d == b) (codes "<+-|>{},;&#xXuUnNiI " ++ 9 ∷ 10 ∷ 11 ∷ 12 ∷ 13 ∷ 92 ∷ [])

-- the value of a hexadecimal digit, of either case
abbrev pub hexadecimal_digit : ℕ → Option ℕ
hexadecimal_digit b = if nat_lt (digit_value b) 16 then Some (digit_value b) else None

-- a number of 64 bits
abbrev pub number_of : ℕ → Option Reading
number_of n = if nat_lt n (2 ^ 64) then Some (Number n) else None

-- what was read of a number, and one more digit of it
abbrev pub with_digit : Reading → ℕ → Option Reading
with_digit Between d = if d == 0 then Some Zero else Some (Number d)
with_digit Zero d = Some (Number d)
with_digit ZeroX d = Some (Number d)
with_digit (Number n) d = number_of (n * 16 + d)

-- the number that ends here, modulo 2^32
abbrev pub ended : Reading → Option ℕ
ended Between = None
ended Zero = Some 0
ended ZeroX = Some 0
ended (Number n) = Some (n % 2 ^ 32)

-- `0x` begins a number
abbrev pub is_zero : Reading → Bool
is_zero Zero = true
is_zero reading = false

abbrev pub is_x : ℕ → Bool
is_x b = (b == 120) || (b == 88)

-- what a byte makes of what was read, and the number that it ends; a byte that is no digit and parts no numbers may not
-- stand there
abbrev pub step_past : Reading → ℕ → Option ℕ → Option (Option ℕ × Reading)
step_past reading b (Some digit) = option_map (λ next. (None, next)) (with_digit reading digit)
step_past reading b None =
    if is_zero reading && is_x b then Some (None, ZeroX)
    else if is_delimiter b then Some (ended reading, Between)
    else None

unfoldable pub step : Reading → ℕ → Option (Option ℕ × Reading)
step reading b = step_past reading b (hexadecimal_digit b)

-- the numbers that come, where this was read of one
abbrev pub numbers_from : Reading → List ℕ → Option (List ℕ)
numbers_from reading [] = Some (option_to_list (ended reading))
numbers_from reading (b ∷ bytes) =
    option_and_then (λ s. option_map (λ numbers. option_to_list s.0 ++ numbers) (numbers_from s.1 bytes)) (step reading b)

-- the numbers in a text; none where a byte may not stand where it stands, or a number has more than 64 bits
abbrev pub numbers_in : List ℕ → Option (List ℕ)
numbers_in text = numbers_from Between text

-- ---- the text of numbers

-- how many bytes a number that is no character would have in UTF-8
abbrev pub encoded_len : ℕ → ℕ
encoded_len n =
    if nat_lt n 65536 then 3 else if nat_lt n 2097152 then 4 else if nat_lt n 67108864 then 5 else 6

-- the replacement character, U+FFFD, in UTF-8
abbrev pub replacement : List ℕ
replacement = 239 ∷ 191 ∷ 189 ∷ []

-- a character, and for a number that is none as many replacement characters as it would have bytes
abbrev pub code_point_text : ℕ → List ℕ
code_point_text n = if scalar n then encode_utf8 n else flat_map (λ c. c) (replicate (encoded_len n) replacement)

abbrev pub code_points_text : List ℕ → List ℕ
code_points_text numbers = flat_map code_point_text numbers
