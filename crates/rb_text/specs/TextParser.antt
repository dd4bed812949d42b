-- What a parser reads from the bytes that are left to it, and what is left then.
use Rattle.std.specs.Prelude.{ℕ, ◌≡◌, ◌<◌, ◌&&◌, ◌==◌, ◌||◌, ◌^◌, List, [], ◌∷◌, Option, Some, None, Bool, true}
use Rattle.std.specs.Prelude.{false, if◌then◌else◌, nat_lt, nat_le, drop, length, ℤ, pos, neg_ℤ}
use Rattle.std.specs.List.{prefix_len, take_while}
use Rattle.std.specs.Char.{is_ascii_alphanumeric, is_ascii_digit, to_ascii_lowercase}
use Rattle.std.specs.Str.Parse.{digits_value}
use Rattle.rb_common.specs.Ascii.{plus_sign, hyphen, single_quote, double_quote, low_line, small_o, small_n, small_f}
use Rattle.rb_common.specs.Tag.{lossy_tag_of}

-- `+` or `-`
abbrev pub is_sign : ℕ → Bool
is_sign b = b == plus_sign || b == hyphen

-- `'` or `"`
abbrev pub is_quote : ℕ → Bool
is_quote b = b == single_quote || b == double_quote

-- a letter, a digit or `_`
abbrev pub is_word : ℕ → Bool
is_word b = is_ascii_alphanumeric b || b == low_line

-- the first byte, where it passes
abbrev pub first_if : (ℕ → Bool) → List ℕ → Option ℕ
first_if p [] = None
first_if p (b ∷ bs) = if p b then Some b else None

-- what follows that byte, or all where it does not pass
abbrev pub after_if : (ℕ → Bool) → List ℕ → List ℕ
after_if p [] = []
after_if p (b ∷ bs) = if p b then bs else b ∷ bs

-- what follows the longest run of bytes at the front that pass
abbrev pub skip_while : (ℕ → Bool) → List ℕ → List ℕ
skip_while p bytes = drop (prefix_len p bytes) bytes

-- the tag of a word, where it has no more than the four bytes of a tag
abbrev pub short_tag : List ℕ → Option ℕ
short_tag word = if nat_lt 4 (length word) then None else Some (lossy_tag_of word)

-- how many numbers of 32 bits with a sign are below 0
abbrev pub i32_limit : ℕ
i32_limit = 2 ^ 31

-- a number of this size, where it fits 32 bits
abbrev pub i32_of : Bool → ℕ → Option ℤ
i32_of true n = if nat_le n i32_limit then Some (neg_ℤ (pos n)) else None
i32_of false n = if nat_lt n i32_limit then Some (pos n) else None

abbrev pub is_minus : Option ℕ → Bool
is_minus None = false
is_minus (Some b) = b == hyphen

-- the number that digits write, negative or not, where there is a digit and the number fits 32 bits
abbrev pub signed_number : Bool → List ℕ → Option ℤ
signed_number is_negative [] = None
signed_number is_negative (d ∷ ds) = i32_of is_negative (digits_value 10 (d ∷ ds))

-- a sign or none and all digits after it: their number, and what follows them
abbrev pub number_in : List ℕ → Option ℤ
number_in bytes = signed_number (is_minus (first_if is_sign bytes)) (take_while is_ascii_digit (after_if is_sign bytes))

abbrev pub after_number : List ℕ → List ℕ
after_number bytes = skip_while is_ascii_digit (after_if is_sign bytes)

-- `on` or `off`, in any case
abbrev pub toggle_of : List ℕ → Option Bool
toggle_of [] = None
toggle_of (a ∷ []) = None
toggle_of (a ∷ b ∷ []) =
    if to_ascii_lowercase a == small_o && to_ascii_lowercase b == small_n then Some true else None
toggle_of (a ∷ b ∷ c ∷ []) =
    if (to_ascii_lowercase a == small_o && to_ascii_lowercase b == small_f) && to_ascii_lowercase c == small_f
    then Some false
    else None
toggle_of (a ∷ b ∷ c ∷ d ∷ more) = None

-- a function with these answers computes the test: what it answers at a byte is what the test does
abbrev pub Computes : (ℕ → Bool → Type 0) → (ℕ → Bool) → Type 0
Computes answers test = (b : ℕ) (r : Bool) → b < 2 ^ 8 → answers b r → r ≡ test b
