-- The ends of a feature's range, and the grammar of a feature's text. A reading cuts the whole text into parts: each
-- optional part is taken where its first byte stands, and each run of spaces, word bytes, digits and letters whole.
use Rattle.std.specs.Prelude.{ℕ, ◌≡◌, ◌==◌, ◌≤◌, ◌||◌, ◌+◌, ◌-◌, ◌++◌, ◌⊎◌, List, [], ◌∷◌, Option, Some, None, Bool}
use Rattle.std.specs.Prelude.{true, false, if◌then◌else◌, length, min, ℤ, option_to_list}
use Rattle.std.specs.List.{AllPass}
use Rattle.std.specs.Char.{is_ascii_alphabetic, is_ascii_digit, is_ascii_whitespace}
use Rattle.std.specs.Int.{cast_unsigned, w32}
use Rattle.std.specs.declared.ops.Bound.{Bound}
use Rattle.std.specs.declared.ops.Bound.TheVariants.{Included, Excluded, Unbounded}
use Rattle.rb_common.specs.Ascii.{hyphen, open_bracket, close_bracket, equals_sign, colon, semicolon}
use Rattle.rb_common.specs.Tag.{lossy_tag_of}
use Rattle.rb_text.specs.TextParser.{is_sign, is_quote, is_word, is_minus, signed_number, toggle_of}
use Rattle.rb_text.specs.declared.feature.Feature.{Feature}

-- the end of a range that reaches to the end of the text: the largest number of 32 bits
abbrev pub last_end : ℕ
last_end = 0xFFFFFFFF

-- the start of a range with this bound, at most the largest number of 32 bits
abbrev pub start_of : Bound ℕ → ℕ
start_of (Included n) = min n last_end
start_of (Excluded n) = min (n + 1) last_end
start_of Unbounded = 0

-- the end of a range with this bound, with the same limit; the number before 0 is 0
abbrev pub end_of : Bound ℕ → ℕ
end_of (Included n) = min n last_end
end_of (Excluded n) = min (n - 1) last_end
end_of Unbounded = last_end

-- no byte is left, or the next one fails the test
abbrev pub Stops : (ℕ → Bool) → List ℕ → Type 0
Stops p [] = Unit {0}
Stops p (b ∷ bs) = p b ≡ false

-- text is part, the longest run of bytes at its front that pass the test, and then rest
pub record Whole (p : ℕ → Bool) (text part rest : List ℕ) : Type 0 where
  pub cut : text ≡ part ++ rest
  pub passes : AllPass p part
  pub stops : Stops p rest

-- text is a byte that passes and then rest, or it begins with no such byte and is rest
abbrev pub Optional : (ℕ → Bool) → List ℕ → Option ℕ → List ℕ → Type 0
Optional p text None rest = (text ≡ rest) × Stops p rest
Optional p text (Some b) rest = (text ≡ b ∷ rest) × (p b ≡ true)

-- the value that the prefix gives: 0 for `-`, else 1
abbrev pub prefix_of : Option ℕ → ℕ
prefix_of None = 1
prefix_of (Some b) = if b == hyphen then 0 else 1

-- text is a sign or none and all digits that follow, with their value where there is a digit and it fits, and then rest
pub record Number (text : List ℕ) (value : Option ℤ) (rest : List ℕ) : Type 0 where
  pub sign : Option ℕ
  pub behind_sign : List ℕ
  pub digits : List ℕ
  pub sign_is : Optional is_sign text sign behind_sign
  pub digits_are : Whole is_ascii_digit behind_sign digits rest
  pub value_is : value ≡ signed_number (is_minus sign) digits

-- text is spaces, a quote or none, a word of at most four bytes, that quote again exactly where one was, and then rest
pub record TagPart (text : List ℕ) (tag : ℕ) (rest : List ℕ) : Type 0 where
  pub gap : List ℕ
  pub behind_gap : List ℕ
  pub quote : Option ℕ
  pub behind_quote : List ℕ
  pub word : List ℕ
  pub behind_word : List ℕ
  pub gap_is : Whole is_ascii_whitespace text gap behind_gap
  pub quote_is : Optional is_quote behind_gap quote behind_quote
  pub word_is : Whole is_word behind_quote word behind_word
  pub short : length word ≤ 4
  pub again : behind_word ≡ option_to_list quote ++ rest
  pub tag_is : tag ≡ lossy_tag_of word

-- whether a byte is this one
abbrev pub is_byte : ℕ → ℕ → Bool
is_byte c b = b == c

-- `:` or `;`
abbrev pub is_separator : ℕ → Bool
is_separator b = b == colon || b == semicolon

-- a number modulo 2 ^ 32, or what stands for it where it has no value
abbrev pub word_or : ℕ → Option ℤ → ℕ
word_or default None = default
word_or default (Some z) = cast_unsigned w32 z

-- the end behind a single number: the next one, but the largest number stays
abbrev pub end_after : Option ℤ → ℕ
end_after None = last_end
end_after (Some z) =
    if cast_unsigned w32 z == last_end then last_end else cast_unsigned w32 z + 1

-- no `[` stands: the range is that of the whole text
pub record NoRange (text : List ℕ) (from to : ℕ) (rest : List ℕ) : Type 0 where
  pub cut : text ≡ rest
  pub stops : Stops (is_byte open_bracket) rest
  pub from_is : from ≡ 0
  pub to_is : to ≡ last_end

-- `[`, a number and `]`
pub record OneNumber (text : List ℕ) (from to : ℕ) (rest : List ℕ) : Type 0 where
  pub inner : List ℕ
  pub number : Option ℤ
  pub opened : text ≡ open_bracket ∷ inner
  pub number_is : Number inner number (close_bracket ∷ rest)
  pub from_is : from ≡ word_or 0 number
  pub to_is : to ≡ end_after number

-- `[`, a number, `:` or `;`, a number and `]`
pub record TwoNumbers (text : List ℕ) (from to : ℕ) (rest : List ℕ) : Type 0 where
  pub inner : List ℕ
  pub first : Option ℤ
  pub separator : ℕ
  pub behind : List ℕ
  pub second : Option ℤ
  pub opened : text ≡ open_bracket ∷ inner
  pub first_is : Number inner first (separator ∷ behind)
  pub separates : is_separator separator ≡ true
  pub second_is : Number behind second (close_bracket ∷ rest)
  pub from_is : from ≡ word_or 0 first
  pub to_is : to ≡ word_or last_end second

abbrev pub Range : List ℕ → ℕ → ℕ → List ℕ → Type 0
Range text from to rest = NoRange text from to rest ⊎ (OneNumber text from to rest ⊎ TwoNumbers text from to rest)

-- `on` gives 1 and `off` 0; of other letters, or none, the prefix's value stands, and they may not follow `=`
abbrev pub Toggles : Option ℕ → ℕ → ℕ → Option Bool → Type 0
Toggles equals prefix value (Some b) = value ≡ (if b then 1 else 0)
Toggles equals prefix value None = (value ≡ prefix) × (equals ≡ None)

-- text is spaces and letters, and then rest
pub record Letters (equals : Option ℕ) (prefix : ℕ) (text : List ℕ) (value : ℕ) (rest : List ℕ) : Type 0 where
  pub gap : List ℕ
  pub behind_gap : List ℕ
  pub letters : List ℕ
  pub gap_is : Whole is_ascii_whitespace text gap behind_gap
  pub letters_are : Whole is_ascii_alphabetic behind_gap letters rest
  pub value_is : Toggles equals prefix value (toggle_of letters)

-- behind a number with a value stands nothing more of the setting; behind one with none, spaces and letters
abbrev pub Word : Option ℕ → ℕ → Option ℤ → List ℕ → ℕ → List ℕ → Type 0
Word equals prefix (Some z) text value rest = (value ≡ cast_unsigned w32 z) × (text ≡ rest)
Word equals prefix None text value rest = Letters equals prefix text value rest

-- text is `=` or nothing, a number, spaces and letters where that has no value, and then rest
pub record Setting (prefix : ℕ) (text : List ℕ) (value : ℕ) (rest : List ℕ) : Type 0 where
  pub equals : Option ℕ
  pub behind_equals : List ℕ
  pub number : Option ℤ
  pub behind_digits : List ℕ
  pub equals_is : Optional (is_byte equals_sign) text equals behind_equals
  pub number_is : Number behind_equals number behind_digits
  pub word_is : Word equals prefix number behind_digits value rest

-- the text is not empty, and is a sign or none, a tag, spaces, a range, a setting and spaces
pub record ReadsAs (text : List ℕ) (f : Feature) : Type 0 where
  pub some_byte : ¬ (text ≡ [])
  pub prefix : Option ℕ
  pub behind_prefix : List ℕ
  pub behind_tag : List ℕ
  pub gap : List ℕ
  pub behind_gap : List ℕ
  pub behind_range : List ℕ
  pub behind_setting : List ℕ
  pub last : List ℕ
  pub prefix_is : Optional is_sign text prefix behind_prefix
  pub tag_is : TagPart behind_prefix f.tag.0 behind_tag
  pub gap_is : Whole is_ascii_whitespace behind_tag gap behind_gap
  pub range_is : Range behind_gap f.start f.end behind_range
  pub setting_is : Setting (prefix_of prefix) behind_range f.value behind_setting
  pub last_is : Whole is_ascii_whitespace behind_setting last []
