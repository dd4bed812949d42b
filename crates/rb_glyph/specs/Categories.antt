-- The general category of a character, in this crate's own enumeration.
use Rattle.std.specs.Prelude.{ℕ}
use Rattle.unicode.specs.GeneralCategory.{general_category}
use Rattle.unicode.specs.declared.properties.GeneralCategory.{GeneralCategory}
use Rattle.unicode.specs.declared.properties.GeneralCategory.TheVariants as unicode
use Rattle.rb_glyph.specs.declared.category.hb_unicode_general_category_t.{hb_unicode_general_category_t}
use Rattle.rb_glyph.specs.declared.category.hb_unicode_general_category_t.TheVariants as own

-- the category with the same name
abbrev pub same_category : GeneralCategory → hb_unicode_general_category_t
same_category unicode.UppercaseLetter = own.UppercaseLetter
same_category unicode.LowercaseLetter = own.LowercaseLetter
same_category unicode.TitlecaseLetter = own.TitlecaseLetter
same_category unicode.ModifierLetter = own.ModifierLetter
same_category unicode.OtherLetter = own.OtherLetter
same_category unicode.NonspacingMark = own.NonspacingMark
same_category unicode.SpacingMark = own.SpacingMark
same_category unicode.EnclosingMark = own.EnclosingMark
same_category unicode.DecimalNumber = own.DecimalNumber
same_category unicode.LetterNumber = own.LetterNumber
same_category unicode.OtherNumber = own.OtherNumber
same_category unicode.ConnectorPunctuation = own.ConnectorPunctuation
same_category unicode.DashPunctuation = own.DashPunctuation
same_category unicode.OpenPunctuation = own.OpenPunctuation
same_category unicode.ClosePunctuation = own.ClosePunctuation
same_category unicode.InitialPunctuation = own.InitialPunctuation
same_category unicode.FinalPunctuation = own.FinalPunctuation
same_category unicode.OtherPunctuation = own.OtherPunctuation
same_category unicode.MathSymbol = own.MathSymbol
same_category unicode.CurrencySymbol = own.CurrencySymbol
same_category unicode.ModifierSymbol = own.ModifierSymbol
same_category unicode.OtherSymbol = own.OtherSymbol
same_category unicode.SpaceSeparator = own.SpaceSeparator
same_category unicode.LineSeparator = own.LineSeparator
same_category unicode.ParagraphSeparator = own.ParagraphSeparator
same_category unicode.Control = own.Control
same_category unicode.Format = own.Format
same_category unicode.Surrogate = own.Surrogate
same_category unicode.PrivateUse = own.PrivateUse
same_category unicode.Unassigned = own.Unassigned

-- the category of a character
abbrev pub category_of_char : ℕ → hb_unicode_general_category_t
category_of_char c = same_category (general_category c)
