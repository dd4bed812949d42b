-- The decomposition of a text, over the glyphs that a font has.
use Rattle.std.specs.Prelude.{◌≡◌, ℕ, zero, suc, ◌+◌, ◌<◌, ◌≤◌, ◌==◌, ◌⊎◌, Bool, true, false, List, [], ◌∷◌, ◌++◌}
use Rattle.std.specs.Prelude.{length, take, drop, flat_map, nat_lt, Option, Some, None, Result, Ok, Err, if◌then◌else◌}
use Rattle.std.specs.Prelude.{◌&&◌, not, option_map, unwrap_or}
use Rattle.std.specs.Option.{option_or}
use Rattle.std.specs.declared.alloc.AllocError.{AllocError}
use Rattle.rb_glyph.specs.declared.info.hb_glyph_info_t.{hb_glyph_info_t}
use Rattle.glyph_lists.specs.Replacement.{copies}
use Rattle.shaping_buffer.specs.State.{State}
use Rattle.shaping_passes.specs.NormalizationParts.{parts_of}

-- a character, or nothing in place of U+0000
abbrev pub some_part : ℕ → List ℕ
some_part c = if c == 0 then [] else c ∷ []

-- the two parts that each character is taken into, the second U+0000 where there is none
abbrev pub Parts : Type 0
Parts = ℕ → Option (ℕ × ℕ)

-- The full decomposition of a character in at most n steps: its first part is taken apart again, and its second part
-- follows.
unfoldable pub decomposition : ℕ → Parts → ℕ → List ℕ
decomposition zero parts c = c ∷ []
decomposition (suc n) parts c =
    elim (parts c) [ None ↦ c ∷ [] | Some p ↦ decomposition n parts p.0 ++ some_part p.1 ]

-- How many steps are taken: Unicode needs three, and Hangul two. A table that goes in circles ends here.
abbrev pub most_steps : ℕ
most_steps = 8

-- ---- with a font

-- Which characters a font has a glyph for, what parts they are taken into, and whether they are taken apart as little as
-- the font needs, or as far as it can.
pub record Font : Type 0 where
  pub has : ℕ → Bool
  pub parts : Parts
  pub fewest : Bool

-- The first part of a character: it stays where the font has it and as little as can be is taken apart. Else the parts of
-- it follow that the font has, and where it lacks them the first part itself, if it has that.
abbrev pub first_parts : Font → ℕ → Option (List ℕ) → Option (List ℕ)
first_parts font a apart =
    let whole = if font.has a then Some (a ∷ []) else None in
    if font.fewest && font.has a then whole else option_or apart whole

-- the font lacks a second part that there is
abbrev pub lacks : Font → ℕ → Bool
lacks font b = not (b == 0) && not (font.has b)

-- the first part or its parts, and then the second part; None where the font lacks one of them
abbrev pub both_parts : Font → ℕ → ℕ → Option (List ℕ) → Option (List ℕ)
both_parts font a b apart =
    if lacks font b then None else option_map (λ l. l ++ some_part b) (first_parts font a apart)

-- the parts of a character that the font has, in at most n steps; None where there are none
unfoldable pub parts_with : Font → ℕ → ℕ → Option (List ℕ)
parts_with font zero c = None
parts_with font (suc n) c =
    elim (font.parts c) [ None ↦ None | Some p ↦ both_parts font p.0 p.1 (parts_with font n p.0) ]

-- What a character gives way to: it stays where the font has it and as little as can be is taken apart, and where the font
-- has no parts of it.
unfoldable pub decomposition_with : Font → ℕ → List ℕ
decomposition_with font c =
    if font.fewest && font.has c then c ∷ [] else unwrap_or (parts_with font most_steps c) (c ∷ [])

-- the rows of a table, as a font that has every glyph
abbrev pub every_glyph : List (ℕ × ℕ × Option ℕ) → Font
every_glyph rows = record { has = λ _. true; parts = parts_of rows; fewest = false }

-- with a font that has every glyph and takes characters apart as far as it can, this is the full decomposition
abbrev pub IsFullWithEveryGlyph : Type 0
IsFullWithEveryGlyph =
    (font : Font) → ((c : ℕ) → font.has c ≡ true) → font.fewest ≡ false → (c : ℕ)
    → decomposition_with font c ≡ decomposition most_steps font.parts c

-- each character gives way to its decomposition, of which each part keeps all else of it
unfoldable pub decomposed : Font → List hb_glyph_info_t → List hb_glyph_info_t
decomposed font l = flat_map (λ g. copies g (decomposition_with font g.glyph_id)) l

-- ---- on a buffer

-- the output is closed over a list, with the cursor at its start and positions off
abbrev pub closed_over : List hb_glyph_info_t → State → State
closed_over l s = record s {
  have_output = false;
  have_separate_output = false;
  out = [];
  input = l;
  idx = 0;
  positions = None;
}

-- the output is open, and the first k characters were read and their decompositions put out
abbrev pub stopped_at : ℕ → Font → State → State
stopped_at k font s =
    let done = decomposed font (take k s.input) in
    record s {
      have_output = true;
      have_separate_output = nat_lt k (length done);
      out = done;
      input = drop k s.input;
      idx = k;
      positions = None;
    }

-- the decompositions of the first k characters are within the limit, and that of the next is not
pub record IsTooLongAt (k : ℕ) (font : Font) (s : State) : Type 0 where
  pub some : k < length s.input
  pub within : length (decomposed font (take k s.input)) ≤ s.max_len
  pub exceeds : s.max_len < length (decomposed font (take (k + 1) s.input))

-- What came of `decompose_all`. It is done where no call was refused before, and the list is within the limit. A
-- refusal leaves what was done before it; after an earlier one nothing changes. Memory runs out only where the list
-- becomes longer, and longer than there is room for, and leaves what was done before.
abbrev pub Decomposes : Font → State → Result Bool AllocError → State → Type 0
Decomposes font s (Ok true) new =
    (s.successful ≡ true) × (length (decomposed font s.input) ≤ s.max_len)
    × (new ≡ closed_over (decomposed font s.input) s)
Decomposes font s (Ok false) new =
    ((s.successful ≡ false) × (new ≡ s))
    ⊎ ((s.successful ≡ true)
    × ((k : ℕ) × IsTooLongAt k font s × (new ≡ record (stopped_at k font s) { successful = false })))
Decomposes font s (Err e) new =
    (length s.input < length (decomposed font s.input)) × (s.room < length (decomposed font s.input))
    × ((k : ℕ) × (k ≤ length s.input) × (new ≡ stopped_at k font s))
