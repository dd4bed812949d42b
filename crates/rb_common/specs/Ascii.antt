-- The ASCII characters that definitions name, by their codes.
use Rattle.std.specs.Prelude.{ℕ}

-- `+`
abbrev pub plus_sign : ℕ
plus_sign = 43

-- `-`, also a minus
abbrev pub hyphen : ℕ
hyphen = 45

-- `'`
abbrev pub single_quote : ℕ
single_quote = 39

-- `"`
abbrev pub double_quote : ℕ
double_quote = 34

-- `_`
abbrev pub low_line : ℕ
low_line = 95

-- `[`
abbrev pub open_bracket : ℕ
open_bracket = 91

-- `]`
abbrev pub close_bracket : ℕ
close_bracket = 93

-- `=`
abbrev pub equals_sign : ℕ
equals_sign = 61

-- `:`
abbrev pub colon : ℕ
colon = 58

-- `;`
abbrev pub semicolon : ℕ
semicolon = 59

-- the space that pads short tags
abbrev pub space : ℕ
space = 32

abbrev pub small_b : ℕ
small_b = 98

abbrev pub small_f : ℕ
small_f = 102

abbrev pub small_l : ℕ
small_l = 108

abbrev pub small_n : ℕ
small_n = 110

abbrev pub small_o : ℕ
small_o = 111

abbrev pub small_r : ℕ
small_r = 114

abbrev pub small_t : ℕ
small_t = 116
