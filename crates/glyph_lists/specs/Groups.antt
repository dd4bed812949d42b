-- Groups of glyphs: a list is cut between neighbours that fail a test, and what reversals make of the groups.
use Rattle.std.specs.Prelude.{ℕ, ◌+◌, ◌++◌, ◌==◌, Bool, List, [], ◌∷◌, take, drop, reverse, if◌then◌else◌}
use Rattle.rb_glyph.specs.Fields.{field}
use Rattle.rb_glyph.specs.declared.info.hb_glyph_info_t.{hb_glyph_info_t}
use Rattle.glyph_lists.specs.Parts.{part}

-- how two neighbours are tested: whether they belong to one group
abbrev pub Test : Type 0
Test = hb_glyph_info_t → hb_glyph_info_t → Bool

-- neighbours in one cluster
abbrev pub share_cluster : Test
share_cluster x y = x.cluster == y.cluster

-- neighbours in one syllable
abbrev pub share_syllable : Test
share_syllable x y = field x.var1 24 8 == field y.var1 24 8

-- how many glyphs the first group has of x and the glyphs after it
abbrev pub group_len : Test → hb_glyph_info_t → List hb_glyph_info_t → ℕ
group_len test x [] = 1
group_len test x (y ∷ ys) = if test x y then 1 + group_len test y ys else 1

-- how many glyphs the first group of a list has
abbrev pub first_group_len : Test → List hb_glyph_info_t → ℕ
first_group_len test [] = 0
first_group_len test (x ∷ xs) = group_len test x xs

-- where the group ends that begins at `start`
abbrev pub group_end : Test → ℕ → List hb_glyph_info_t → ℕ
group_end test start l = start + first_group_len test (drop start l)

-- the first length one greater
abbrev pub first_longer : List ℕ → List ℕ
first_longer [] = []
first_longer (n ∷ ns) = (1 + n) ∷ ns

-- the lengths of the groups of x and the glyphs after it: a cut stands between neighbours that fail the test
abbrev pub lens_from : Test → hb_glyph_info_t → List hb_glyph_info_t → List ℕ
lens_from test x [] = 1 ∷ []
lens_from test x (y ∷ ys) = if test x y then first_longer (lens_from test y ys) else 1 ∷ lens_from test y ys

-- the lengths of the groups of a list
abbrev pub group_lens : Test → List hb_glyph_info_t → List ℕ
group_lens test [] = []
group_lens test (x ∷ xs) = lens_from test x xs

-- the groups of these lengths in reverse order, each in its own order
abbrev pub groups_in_reverse : {X : Type 0} → List ℕ → List X → List X
groups_in_reverse [] xs = xs
groups_in_reverse (n ∷ ns) xs = groups_in_reverse ns (drop n xs) ++ take n xs

-- places a to b in reverse order
abbrev pub reverse_range : {X : Type 0} → ℕ → ℕ → List X → List X
reverse_range a b xs = take a xs ++ reverse (part xs a b) ++ drop b xs
