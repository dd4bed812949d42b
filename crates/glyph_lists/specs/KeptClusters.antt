-- What calls keep of the clusters of a list, whatever they do to its glyphs.
use Rattle.std.specs.Prelude.{◌≡◌, ◌<◌, ℕ, Bool, true, false, not, List, length}
use Rattle.rb_glyph.specs.declared.info.hb_glyph_info_t.{hb_glyph_info_t}
use Rattle.glyph_lists.specs.Clusters.{NeverFalls, NeverRises, clusters, occurs, least}

-- the numbers run one way: up, so that they never fall, or down
abbrev pub Runs : Bool → List ℕ → Type 0
Runs true cs = NeverFalls cs
Runs false cs = NeverRises cs

-- clusters that run up still run up, and those that run down still run down, unless they may stand in any order
abbrev pub KeepsOrder : Bool → List hb_glyph_info_t → List hb_glyph_info_t → Type 0
KeepsOrder any_order old new = any_order ≡ false → (up : Bool) → Runs up (clusters old) → Runs up (clusters new)

-- they run the other way, as a reversal leaves them
abbrev pub TurnsOrder : Bool → List hb_glyph_info_t → List hb_glyph_info_t → Type 0
TurnsOrder any_order old new = any_order ≡ false → (up : Bool) → Runs up (clusters old) → Runs (not up) (clusters new)

-- no cluster number is new
abbrev pub BringsNoCluster : List hb_glyph_info_t → List hb_glyph_info_t → Type 0
BringsNoCluster old new = (c : ℕ) → occurs c (clusters new) ≡ true → occurs c (clusters old) ≡ true

-- the least cluster stays while a glyph does, unless clusters may stand in any order
abbrev pub KeepsLeast : Bool → List hb_glyph_info_t → List hb_glyph_info_t → Type 0
KeepsLeast any_order old new =
    any_order ≡ false → 0 < length new → least (clusters new) ≡ least (clusters old)
