-- What a shaper asks of a character: tables of characters and ranges of them, in hexadecimal.
use Rattle.std.specs.Prelude.{ℕ, List, [], ◌∷◌, unwrap_or, ◌==◌, ◌||◌, if◌then◌else◌}
use Rattle.rb_glyph.specs.Rows.{value_of}
use Rattle.rb_glyph.specs.declared.hb_unicode_funcs_t.TheConstants as space
use Rattle.rb_glyph.specs.declared.modified_combining_class.TheConstants as class

-- the characters that are invisible by default, in ranges: Default_Ignorable_Code_Point without the Hangul fillers
-- and the shorthand controls
abbrev pub default_ignorables : List (ℕ × ℕ)
default_ignorables =
    (0x00AD, 0x00AD) ∷ (0x034F, 0x034F) ∷ (0x061C, 0x061C) ∷ (0x17B4, 0x17B5) ∷ (0x180B, 0x180F) ∷
    (0x200B, 0x200F) ∷ (0x202A, 0x202E) ∷ (0x2060, 0x206F) ∷ (0xFE00, 0xFE0F) ∷ (0xFEFF, 0xFEFF) ∷
    (0xFFF0, 0xFFF8) ∷ (0x1D173, 0x1D17A) ∷ (0xE0000, 0xE0FFF) ∷ []

-- the variation selectors, except the Mongolian ones
abbrev pub variation_selectors : List (ℕ × ℕ)
variation_selectors =
    (0xFE00, 0xFE0F) ∷ (0xE0100, 0xE01EF) ∷ []

-- the characters that emoji are made from, in ranges: a list of this project's own, after Extended_Pictographic
abbrev pub extended_pictographics : List (ℕ × ℕ)
extended_pictographics =
    (0x00A9, 0x00A9) ∷ (0x00AE, 0x00AE) ∷ (0x203C, 0x203C) ∷ (0x2049, 0x2049) ∷ (0x2122, 0x2122) ∷
    (0x2139, 0x2139) ∷ (0x2194, 0x2199) ∷ (0x21A9, 0x21AA) ∷ (0x231A, 0x231B) ∷ (0x2328, 0x2328) ∷
    (0x2388, 0x2388) ∷ (0x23CF, 0x23CF) ∷ (0x23E9, 0x23F3) ∷ (0x23F8, 0x23FA) ∷ (0x24C2, 0x24C2) ∷
    (0x25AA, 0x25AB) ∷ (0x25B6, 0x25B6) ∷ (0x25C0, 0x25C0) ∷ (0x25FB, 0x25FE) ∷ (0x2600, 0x2605) ∷
    (0x2607, 0x2612) ∷ (0x2614, 0x2685) ∷ (0x2690, 0x2705) ∷ (0x2708, 0x2712) ∷ (0x2714, 0x2714) ∷
    (0x2716, 0x2716) ∷ (0x271D, 0x271D) ∷ (0x2721, 0x2721) ∷ (0x2728, 0x2728) ∷ (0x2733, 0x2734) ∷
    (0x2744, 0x2744) ∷ (0x2747, 0x2747) ∷ (0x274C, 0x274C) ∷ (0x274E, 0x274E) ∷ (0x2753, 0x2755) ∷
    (0x2757, 0x2757) ∷ (0x2763, 0x2767) ∷ (0x2795, 0x2797) ∷ (0x27A1, 0x27A1) ∷ (0x27B0, 0x27B0) ∷
    (0x27BF, 0x27BF) ∷ (0x2934, 0x2935) ∷ (0x2B05, 0x2B07) ∷ (0x2B1B, 0x2B1C) ∷ (0x2B50, 0x2B50) ∷
    (0x2B55, 0x2B55) ∷ (0x3030, 0x3030) ∷ (0x303D, 0x303D) ∷ (0x3297, 0x3297) ∷ (0x3299, 0x3299) ∷
    (0x1F000, 0x1F0FF) ∷ (0x1F10D, 0x1F10F) ∷ (0x1F12F, 0x1F12F) ∷ (0x1F16C, 0x1F171) ∷ (0x1F17E, 0x1F17F) ∷
    (0x1F18E, 0x1F18E) ∷ (0x1F191, 0x1F19A) ∷ (0x1F1AD, 0x1F1E5) ∷ (0x1F201, 0x1F20F) ∷ (0x1F21A, 0x1F21A) ∷
    (0x1F22F, 0x1F22F) ∷ (0x1F232, 0x1F23A) ∷ (0x1F23C, 0x1F23F) ∷ (0x1F249, 0x1F3FA) ∷ (0x1F400, 0x1F53D) ∷
    (0x1F546, 0x1F64F) ∷ (0x1F680, 0x1F6FF) ∷ (0x1F774, 0x1F77F) ∷ (0x1F7D5, 0x1F7FF) ∷ (0x1F80C, 0x1F80F) ∷
    (0x1F848, 0x1F84F) ∷ (0x1F85A, 0x1F85F) ∷ (0x1F888, 0x1F88F) ∷ (0x1F8AE, 0x1F8FF) ∷ (0x1F90C, 0x1F93A) ∷
    (0x1F93C, 0x1F945) ∷ (0x1F947, 0x1FAFF) ∷ (0x1FC00, 0x1FFFD) ∷ []

-- a character, and the form of it that stands in vertical lines
abbrev pub vertical_forms : List (ℕ × ℕ)
vertical_forms =
    (0x2013, 0xFE32) ∷ (0x2014, 0xFE31) ∷ (0x2025, 0xFE30) ∷ (0x2026, 0xFE19) ∷ (0x3001, 0xFE11) ∷
    (0x3002, 0xFE12) ∷ (0x3008, 0xFE3F) ∷ (0x3009, 0xFE40) ∷ (0x300A, 0xFE3D) ∷ (0x300B, 0xFE3E) ∷
    (0x300C, 0xFE41) ∷ (0x300D, 0xFE42) ∷ (0x300E, 0xFE43) ∷ (0x300F, 0xFE44) ∷ (0x3010, 0xFE3B) ∷
    (0x3011, 0xFE3C) ∷ (0x3014, 0xFE39) ∷ (0x3015, 0xFE3A) ∷ (0x3016, 0xFE17) ∷ (0x3017, 0xFE18) ∷
    (0xFE4F, 0xFE34) ∷ (0xFF01, 0xFE15) ∷ (0xFF08, 0xFE35) ∷ (0xFF09, 0xFE36) ∷ (0xFF0C, 0xFE10) ∷
    (0xFF1A, 0xFE13) ∷ (0xFF1B, 0xFE14) ∷ (0xFF1F, 0xFE16) ∷ (0xFF3B, 0xFE47) ∷ (0xFF3D, 0xFE48) ∷
    (0xFF3F, 0xFE33) ∷ (0xFF5B, 0xFE37) ∷ (0xFF5D, 0xFE38) ∷ []

-- a space, and the kind of its width
abbrev pub spaces : List (ℕ × ℕ)
spaces =
    (0x0020, space.SPACE) ∷ (0x00A0, space.SPACE) ∷ (0x2000, space.SPACE_EM_2) ∷ (0x2001, space.SPACE_EM) ∷
    (0x2002, space.SPACE_EM_2) ∷ (0x2003, space.SPACE_EM) ∷ (0x2004, space.SPACE_EM_3) ∷
    (0x2005, space.SPACE_EM_4) ∷ (0x2006, space.SPACE_EM_6) ∷ (0x2007, space.SPACE_FIGURE) ∷
    (0x2008, space.SPACE_PUNCTUATION) ∷ (0x2009, space.SPACE_EM_5) ∷ (0x200A, space.SPACE_EM_16) ∷
    (0x202F, space.SPACE_NARROW) ∷ (0x205F, space.SPACE_4_EM_18) ∷ (0x3000, space.SPACE_EM) ∷ []

-- the kind of a character's width, 0 where it is no space
abbrev pub space_fallback : ℕ → ℕ
space_fallback c = unwrap_or (value_of c spaces) space.NOT_SPACE

-- a canonical combining class, and the class that marks of it are reordered by
abbrev pub class_changes : List (ℕ × ℕ)
class_changes =
    (10, class.CCC10) ∷ (11, class.CCC11) ∷ (12, class.CCC12) ∷ (13, class.CCC13) ∷ (14, class.CCC14) ∷
    (15, class.CCC15) ∷ (16, class.CCC16) ∷ (17, class.CCC17) ∷ (18, class.CCC18) ∷ (19, class.CCC19) ∷
    (20, class.CCC20) ∷ (21, class.CCC21) ∷ (22, class.CCC22) ∷ (23, class.CCC23) ∷ (24, class.CCC24) ∷
    (25, class.CCC25) ∷ (26, class.CCC26) ∷ (27, class.CCC27) ∷ (28, class.CCC28) ∷ (29, class.CCC29) ∷
    (30, class.CCC30) ∷ (31, class.CCC31) ∷ (32, class.CCC32) ∷ (33, class.CCC33) ∷ (34, class.CCC34) ∷
    (35, class.CCC35) ∷ (36, class.CCC36) ∷ (84, class.CCC84) ∷ (91, class.CCC91) ∷ (103, class.CCC103) ∷
    (107, class.CCC107) ∷ (118, class.CCC118) ∷ (122, class.CCC122) ∷ (129, class.CCC129) ∷
    (130, class.CCC130) ∷ (132, class.CCC132) ∷ []

-- the class that marks of a canonical combining class are reordered by
abbrev pub reordering_class : ℕ → ℕ
reordering_class canonical = unwrap_or (value_of canonical class_changes) canonical

-- the class that a character is reordered by: three have their own, and any other goes by its canonical class,
-- 0 where it has no row
abbrev pub modified_combining_class : ℕ → List (ℕ × ℕ) → ℕ
modified_combining_class c classes =
    if c == 0x1A60 || c == 0x0FC6 then 254
    else if c == 0x0F39 then 127
    else reordering_class (unwrap_or (value_of c classes) 0)
