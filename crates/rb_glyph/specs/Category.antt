-- General categories and their numbers.
use Rattle.std.specs.Prelude.{ℕ, Bool, true, false, List, [], ◌∷◌, slice_index_or}
use Rattle.rb_glyph.specs.declared.category.hb_unicode_general_category_t.{hb_unicode_general_category_t}
use Rattle.rb_glyph.specs.declared.category.hb_unicode_general_category_t.TheVariants as own
use Rattle.rb_glyph.specs.declared.hb_gc.TheConstants as gc

-- the number of a category
abbrev pub number_of : hb_unicode_general_category_t → ℕ
number_of own.Control = gc.RB_UNICODE_GENERAL_CATEGORY_CONTROL
number_of own.Format = gc.RB_UNICODE_GENERAL_CATEGORY_FORMAT
number_of own.Unassigned = gc.RB_UNICODE_GENERAL_CATEGORY_UNASSIGNED
number_of own.PrivateUse = gc.RB_UNICODE_GENERAL_CATEGORY_PRIVATE_USE
number_of own.Surrogate = gc.RB_UNICODE_GENERAL_CATEGORY_SURROGATE
number_of own.LowercaseLetter = gc.RB_UNICODE_GENERAL_CATEGORY_LOWERCASE_LETTER
number_of own.ModifierLetter = gc.RB_UNICODE_GENERAL_CATEGORY_MODIFIER_LETTER
number_of own.OtherLetter = gc.RB_UNICODE_GENERAL_CATEGORY_OTHER_LETTER
number_of own.TitlecaseLetter = gc.RB_UNICODE_GENERAL_CATEGORY_TITLECASE_LETTER
number_of own.UppercaseLetter = gc.RB_UNICODE_GENERAL_CATEGORY_UPPERCASE_LETTER
number_of own.SpacingMark = gc.RB_UNICODE_GENERAL_CATEGORY_SPACING_MARK
number_of own.EnclosingMark = gc.RB_UNICODE_GENERAL_CATEGORY_ENCLOSING_MARK
number_of own.NonspacingMark = gc.RB_UNICODE_GENERAL_CATEGORY_NON_SPACING_MARK
number_of own.DecimalNumber = gc.RB_UNICODE_GENERAL_CATEGORY_DECIMAL_NUMBER
number_of own.LetterNumber = gc.RB_UNICODE_GENERAL_CATEGORY_LETTER_NUMBER
number_of own.OtherNumber = gc.RB_UNICODE_GENERAL_CATEGORY_OTHER_NUMBER
number_of own.ConnectorPunctuation = gc.RB_UNICODE_GENERAL_CATEGORY_CONNECT_PUNCTUATION
number_of own.DashPunctuation = gc.RB_UNICODE_GENERAL_CATEGORY_DASH_PUNCTUATION
number_of own.ClosePunctuation = gc.RB_UNICODE_GENERAL_CATEGORY_CLOSE_PUNCTUATION
number_of own.FinalPunctuation = gc.RB_UNICODE_GENERAL_CATEGORY_FINAL_PUNCTUATION
number_of own.InitialPunctuation = gc.RB_UNICODE_GENERAL_CATEGORY_INITIAL_PUNCTUATION
number_of own.OtherPunctuation = gc.RB_UNICODE_GENERAL_CATEGORY_OTHER_PUNCTUATION
number_of own.OpenPunctuation = gc.RB_UNICODE_GENERAL_CATEGORY_OPEN_PUNCTUATION
number_of own.CurrencySymbol = gc.RB_UNICODE_GENERAL_CATEGORY_CURRENCY_SYMBOL
number_of own.ModifierSymbol = gc.RB_UNICODE_GENERAL_CATEGORY_MODIFIER_SYMBOL
number_of own.MathSymbol = gc.RB_UNICODE_GENERAL_CATEGORY_MATH_SYMBOL
number_of own.OtherSymbol = gc.RB_UNICODE_GENERAL_CATEGORY_OTHER_SYMBOL
number_of own.LineSeparator = gc.RB_UNICODE_GENERAL_CATEGORY_LINE_SEPARATOR
number_of own.ParagraphSeparator = gc.RB_UNICODE_GENERAL_CATEGORY_PARAGRAPH_SEPARATOR
number_of own.SpaceSeparator = gc.RB_UNICODE_GENERAL_CATEGORY_SPACE_SEPARATOR

-- the categories in the order of their numbers
abbrev pub categories : List hb_unicode_general_category_t
categories =
    own.Control ∷ own.Format ∷ own.Unassigned ∷ own.PrivateUse ∷ own.Surrogate ∷ own.LowercaseLetter ∷
    own.ModifierLetter ∷ own.OtherLetter ∷ own.TitlecaseLetter ∷ own.UppercaseLetter ∷ own.SpacingMark ∷
    own.EnclosingMark ∷ own.NonspacingMark ∷ own.DecimalNumber ∷ own.LetterNumber ∷ own.OtherNumber ∷
    own.ConnectorPunctuation ∷ own.DashPunctuation ∷ own.ClosePunctuation ∷ own.FinalPunctuation ∷
    own.InitialPunctuation ∷ own.OtherPunctuation ∷ own.OpenPunctuation ∷ own.CurrencySymbol ∷ own.ModifierSymbol ∷
    own.MathSymbol ∷ own.OtherSymbol ∷ own.LineSeparator ∷ own.ParagraphSeparator ∷ own.SpaceSeparator ∷ []

-- the category of a number below 30
abbrev pub category_of : ℕ → hb_unicode_general_category_t
category_of number = slice_index_or categories number own.Unassigned

-- the categories of marks
abbrev pub is_mark_category : hb_unicode_general_category_t → Bool
is_mark_category own.SpacingMark = true
is_mark_category own.EnclosingMark = true
is_mark_category own.NonspacingMark = true
is_mark_category _ = false

-- the categories of letters
abbrev pub is_letter_category : hb_unicode_general_category_t → Bool
is_letter_category own.LowercaseLetter = true
is_letter_category own.ModifierLetter = true
is_letter_category own.OtherLetter = true
is_letter_category own.TitlecaseLetter = true
is_letter_category own.UppercaseLetter = true
is_letter_category _ = false
