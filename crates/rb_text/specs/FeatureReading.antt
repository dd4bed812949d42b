-- What reading a feature's text from the left finds, part by part: the part's value and what is left, or nothing.
use Rattle.std.specs.Prelude.{ℕ, List, [], ◌∷◌, Option, Some, None, Bool, true, false, if◌then◌else◌, ℤ, is_some}
use Rattle.std.specs.Option.{option_and_then}
use Rattle.std.specs.List.{take_while}
use Rattle.std.specs.Char.{is_ascii_alphabetic, is_ascii_whitespace}
use Rattle.std.specs.Int.{cast_unsigned, w32}
use Rattle.rb_text.specs.TextParser.{is_sign, is_quote, is_word, first_if, after_if, skip_while, short_tag, number_in}
use Rattle.rb_text.specs.TextParser.{after_number, toggle_of}
use Rattle.rb_common.specs.Ascii.{open_bracket, close_bracket, equals_sign}
use Rattle.rb_text.specs.Feature.{prefix_of, is_byte, is_separator, word_or, last_end, end_after}
use Rattle.rb_text.specs.declared.feature.Feature.{Feature}

abbrev pub begins_with : ℕ → List ℕ → Bool
begins_with c bytes = is_some (first_if (is_byte c) bytes)

-- the tag, where the quote in front of it, if there is one, stands behind it too
abbrev pub tag_in_quotes : Option ℕ → Option ℕ → List ℕ → Option (ℕ × List ℕ)
tag_in_quotes quote None bytes = None
tag_in_quotes None (Some tag) bytes = Some (tag, bytes)
tag_in_quotes (Some q) (Some tag) bytes = if begins_with q bytes then Some (tag, after_if (is_byte q) bytes) else None

unfoldable pub tag_in : List ℕ → Option (ℕ × List ℕ)
tag_in bytes =
    let at_quote : List ℕ = skip_while is_ascii_whitespace bytes in
    let at_word : List ℕ = after_if is_quote at_quote in
    tag_in_quotes (first_if is_quote at_quote) (short_tag (take_while is_word at_word)) (skip_while is_word at_word)

-- the range, where `]` stands behind its numbers
abbrev pub range_in_brackets : ℕ → ℕ → List ℕ → Option ((ℕ × ℕ) × List ℕ)
range_in_brackets from to bytes =
    if begins_with close_bracket bytes then Some ((from, to), after_if (is_byte close_bracket) bytes) else None

abbrev pub numbers_in : List ℕ → Option ((ℕ × ℕ) × List ℕ)
numbers_in bytes =
    let behind : List ℕ = after_if is_separator (after_number bytes) in
    if is_some (first_if is_separator (after_number bytes))
    then range_in_brackets (word_or 0 (number_in bytes))
    (word_or last_end (number_in behind)) (after_number behind)
    else range_in_brackets (word_or 0 (number_in bytes)) (end_after (number_in bytes))
    (after_number bytes)

unfoldable pub range_in : List ℕ → Option ((ℕ × ℕ) × List ℕ)
range_in bytes =
    if begins_with open_bracket bytes then numbers_in (after_if (is_byte open_bracket) bytes)
    else Some ((0, last_end), bytes)

-- the value of `on`, `off` or the prefix
abbrev pub value_of_toggle : Bool → ℕ → Option Bool → List ℕ → Option (ℕ × List ℕ)
value_of_toggle equals prefix (Some b) bytes = Some ((if b then 1 else 0), bytes)
value_of_toggle equals prefix None bytes = if equals then None else Some (prefix, bytes)

abbrev pub value_behind_number : Bool → ℕ → Option ℤ → List ℕ → Option (ℕ × List ℕ)
value_behind_number equals prefix (Some z) bytes = Some (cast_unsigned w32 z, bytes)
value_behind_number equals prefix None bytes =
    let at_letters : List ℕ = skip_while is_ascii_whitespace bytes in
    value_of_toggle equals prefix (toggle_of (take_while is_ascii_alphabetic at_letters))
    (skip_while is_ascii_alphabetic at_letters)

unfoldable pub setting_in : ℕ → List ℕ → Option (ℕ × List ℕ)
setting_in prefix bytes =
    let at_number : List ℕ = after_if (is_byte equals_sign) bytes in
    value_behind_number (begins_with equals_sign bytes) prefix (number_in at_number) (after_number at_number)

abbrev pub is_nil : List ℕ → Bool
is_nil [] = true
is_nil (b ∷ bs) = false

-- the feature of these parts, where nothing but spaces is left
abbrev pub feature_at_end : ℕ → ℕ × ℕ → ℕ × List ℕ → Option Feature
feature_at_end tag range setting =
    if is_nil (skip_while is_ascii_whitespace setting.1)
    then Some (record { tag = record { 0 = tag }; value = setting.0; start = range.0; end = range.1 })
    else None

abbrev pub parts_in : ℕ → List ℕ → Option Feature
parts_in prefix bytes =
    option_and_then (λ t.
    option_and_then (λ r.
    option_and_then (λ v. feature_at_end t.0 r.0 v)
    (setting_in prefix r.1)) (range_in (skip_while is_ascii_whitespace t.1))) (tag_in bytes)

unfoldable pub feature_in : List ℕ → Option Feature
feature_in bytes = if is_nil bytes then None else parts_in (prefix_of (first_if is_sign bytes)) (after_if is_sign bytes)
