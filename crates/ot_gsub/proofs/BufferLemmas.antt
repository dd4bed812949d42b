-- What holds of the glyphs beside the cursor.
use Rattle.std.proofs.Common.{◌≡◌, ℕ, ◌-◌, ◌<◌, List, ◌++◌, length, take, drop, arith, ◌∙◌, refl, sym, ap, Bool, true, false}
use Rattle.std.proofs.lemmas.Bool.{cond-true, eqb-true, ltb-true, false≢true}
use Rattle.std.proofs.lemmas.List.{append-nil, drop_all, get_or_default, length-set, take_all}
use Rattle.std.specs.Prelude.{slice_index_or, ◌&&◌}
use Rattle.rb_glyph.specs.declared.info.hb_glyph_info_t.{hb_glyph_info_t}
use Rattle.glyph_lists.specs.Clusters.{clusters, zero_glyph}
use Rattle.std.specs.List.{refill}
use Rattle.glyph_laws.proofs.NumbersLemmas.{occurs-from_stands, stands_left}
use Rattle.shaping_buffer.specs.State.{State, place_of}
use Rattle.shaping_buffer.specs.ClusterStep.{head_of}
use Rattle.shaping_buffer.specs.KeepsClusters.{HasTwin}
use Rattle.shaping_buffer.proofs.ClosedKeepsLemmas.{clusters_written}
use Rattle.ot_gsub.specs.Edits.{replace_at}
use Rattle.shaping_buffer.specs.Lending.{with_input}
use Rattle.ot_gsub.specs.Writing.{glyph_ahead, has_twin_before}

-- a glyph of a list, whatever would stand for one outside of it
slice_index_or-glyph : (l : List hb_glyph_info_t) (k : ℕ) (g : hb_glyph_info_t) → k < length l
    → g ≡ slice_index_or l k g
    → slice_index_or l k zero_glyph ≡ g
slice_index_or-glyph l k g within is = get_or_default l k zero_glyph g within ∙ sym is

both_true : (a b : Bool) → (a && b) ≡ true → (a ≡ true) × (b ≡ true)
both_true true b e = (refl, e)
both_true false b e = absurd (false≢true e)

-- the last glyph that was put out is in the cluster of the current one
pub twin_before : (s : State) → s.have_output ≡ true → has_twin_before s ≡ true → HasTwin s
twin_before s opened test _ =
    let parts = both_true _ _ test in
    let some : 0 < length s.out = ltb-true 0 (length s.out) parts.0 in
    let head : glyph_ahead 0 s ≡ head_of s
    = ap (λ k. slice_index_or s.input k zero_glyph) (cond-true _ _ _ opened) in
    occurs-from_stands (head_of s).cluster (s.out ++ drop 1 s.input)
    (stands_left (head_of s).cluster s.out (drop 1 s.input)
    (length s.out - 1, omega (arith, some), eqb-true _ _ parts.1 ∙ ap (λ g. g.cluster) head))

-- the last glyph that was put out, as it was read
pub last_put-read : (s : State) (g : hb_glyph_info_t) → 0 < length s.out
    → g ≡ slice_index_or s.out (length s.out - 1) g → g ≡ slice_index_or s.out (length s.out - 1) zero_glyph
last_put-read s g some is = sym (slice_index_or-glyph s.out (length s.out - 1) g (omega (arith, some)) is)

-- a glyph that was read is the one so many places ahead
pub glyph_ahead-read : (k : ℕ) (s : State) (g : hb_glyph_info_t) → s.have_output ≡ true → k < length s.input
    → g ≡ slice_index_or s.input (place_of s k) g → g ≡ glyph_ahead k s
glyph_ahead-read k s g opened some is =
    let at : place_of s k ≡ k = cond-true _ _ _ opened in
    sym (slice_index_or-glyph s.input (place_of s k) g (omega (arith, at)) is)

-- a list that is written over whole
pub refilled_whole : (xs ws : List hb_glyph_info_t) → length ws ≡ length xs → refill (length xs) xs ws ≡ ws
refilled_whole xs ws same =
    ap (λ (z : List hb_glyph_info_t). take (length xs) (ws ++ z)) (drop_all (length ws) xs (omega arith))
    ∙ ap (take (length xs)) (append-nil ws) ∙ take_all (length xs) ws (omega arith)

pub with_input_whole : (s : State) (gs ws : List hb_glyph_info_t) → gs ≡ ws → length ws ≡ length s.input
    → with_input s gs ≡ record s { input = ws }
with_input_whole s gs ws is same =
    ap (λ (l : List hb_glyph_info_t). record s { input = l }) (ap (refill (length s.input) s.input) is ∙ refilled_whole s.input ws same)

-- a glyph that is replaced in place stays in its cluster
pub clusters-replace_at : (gdef : List ℕ) (place glyph : ℕ) (gs : List hb_glyph_info_t)
    → clusters (replace_at gdef place glyph gs) ≡ clusters gs
clusters-replace_at gdef place glyph gs = clusters_written gs place _ zero_glyph refl

pub length-replace_at : (gdef : List ℕ) (place glyph : ℕ) (gs : List hb_glyph_info_t)
    → length (replace_at gdef place glyph gs) ≡ length gs
length-replace_at gdef place glyph gs = length-set gs place _
