-- The words of a line.
use Rattle.std.specs.Prelude.{ℕ, ◌<◌, ◌^◌, ◌&&◌, ◌==◌, ◌≡◌, List, length, Option, Some, None, Bool, true, if◌then◌else◌}
use Rattle.std.specs.Prelude.{nat_lt, option_and_then, option_map, codes}
use lib.Utf8.{scalar}
use Rattle.std.specs.Char.{is_ascii_digit, is_ascii_hexdigit}
use Rattle.std.specs.List.{before_first, after_first, position_or_len, list_all}
use Rattle.std.specs.Str.{bytes_eq}
use Rattle.std.specs.Str.Parse.{digits_value}
use Rattle.rb_common.specs.Script.{script_of}
use Rattle.rb_common.specs.Tag.{lossy_tag_of}

-- what parts two words
abbrev pub is_space : ℕ → Bool
is_space b = b == 32

-- what is left of a line, where its end was not taken yet
abbrev pub Rest : Type 0
Rest = Option (List ℕ)

-- a word is not empty
abbrev pub unless_empty : List ℕ → Option (List ℕ)
unless_empty word = if length word == 0 then None else Some word

-- the next word of what is left of a line: it ends before the first space
abbrev pub first_word : Rest → Option (List ℕ)
first_word None = None
first_word (Some text) = unless_empty (before_first is_space text)

-- what follows the first space, where there is one
abbrev pub past_space : List ℕ → Rest
past_space text =
    if nat_lt (position_or_len is_space text) (length text) then Some (after_first is_space text) else None

-- what is left once the next word was taken
abbrev pub past_first_word : Rest → Option (List ℕ)
past_first_word None = None
past_first_word (Some text) = past_space text

-- the number that decimal digits write
abbrev pub decimal_value : List ℕ → ℕ
decimal_value word = digits_value 10 word

-- the number that hexadecimal digits write, of either case
abbrev pub hexadecimal_value : List ℕ → ℕ
hexadecimal_value word = digits_value 16 word

-- decimal digits alone, at least one
abbrev pub IsDecimal : List ℕ → Type 0
IsDecimal word = (0 < length word) × (list_all is_ascii_digit word ≡ true)

-- hexadecimal digits alone, at least one
abbrev pub IsHexadecimal : List ℕ → Type 0
IsHexadecimal word = (0 < length word) × (list_all is_ascii_hexdigit word ≡ true)

-- the number of a word, where decimal digits alone write one below the bound
abbrev pub number_below : ℕ → List ℕ → Option ℕ
number_below bound word =
    if list_all is_ascii_digit word && nat_lt (decimal_value word) bound then Some (decimal_value word) else None

-- the character of a word, where hexadecimal digits alone write a scalar value
abbrev pub character_of : List ℕ → Option ℕ
character_of word =
    if list_all is_ascii_hexdigit word && scalar (hexadecimal_value word) then Some (hexadecimal_value word) else None

-- the next word as a number of 32 bits, as one of 64 bits, and as a character
abbrev pub next_u32 : Rest → Option ℕ
next_u32 rest = option_and_then (number_below (2 ^ 32)) (first_word rest)

abbrev pub next_u64 : Rest → Option ℕ
next_u64 rest = option_and_then (number_below (2 ^ 64)) (first_word rest)

abbrev pub next_character : Rest → Option ℕ
next_character rest = option_and_then character_of (first_word rest)

-- the script that a word names, where it names one; `-` names none
abbrev pub script_in : List ℕ → Option (Option ℕ)
script_in word =
    if bytes_eq word (codes "-") then Some None else option_map (λ script. Some script) (script_of (lossy_tag_of word))

-- the text of a language; `-` names none
abbrev pub language_in : List ℕ → Option (List ℕ)
language_in word = if bytes_eq word (codes "-") then None else Some word

-- the next word as the name of a script, and as that of a language
abbrev pub next_script : Rest → Option (Option ℕ)
next_script rest = option_and_then script_in (first_word rest)

abbrev pub next_language : Rest → Option (Option (List ℕ))
next_language rest = option_map language_in (first_word rest)
