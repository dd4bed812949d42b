-- A glyph stays in the current one's cluster where that is dropped.
use Rattle.std.proofs.Common.{◌≡◌, ℕ, ◌-◌, ◌<◌, List, ◌++◌, length, drop, arith, ◌∙◌, sym, ap, true}
use Rattle.std.proofs.lemmas.Bool.{cond-true}
use Rattle.std.proofs.lemmas.List.{get_or_default}
use Rattle.std.specs.Prelude.{slice_index_or}
use Rattle.rb_glyph.specs.declared.info.hb_glyph_info_t.{hb_glyph_info_t}
use Rattle.glyph_lists.specs.Clusters.{zero_glyph}
use Rattle.glyph_laws.proofs.NumbersLemmas.{occurs-from_stands, stands_left}
use Rattle.shaping_buffer.specs.State.{State, place_of}
use Rattle.shaping_buffer.specs.ClusterStep.{head_of}
use Rattle.shaping_buffer.specs.KeepsClusters.{HasTwin}

-- a glyph of a list, whatever would stand for one outside of it
slice_index_or-glyph : (l : List hb_glyph_info_t) (k : ℕ) (g : hb_glyph_info_t) → k < length l
    → g ≡ slice_index_or l k g
    → slice_index_or l k zero_glyph ≡ g
slice_index_or-glyph l k g within is = get_or_default l k zero_glyph g within ∙ sym is

-- the last glyph that was put out is in the cluster of the current one
pub twin_before : (s : State) (p c : hb_glyph_info_t) → s.have_output ≡ true → 0 < length s.out → 0 < length s.input
    → p ≡ slice_index_or s.out (length s.out - 1) p → c ≡ slice_index_or s.input (place_of s 0) c
    → p.cluster ≡ c.cluster → HasTwin s
twin_before s p c opened some_out some_in is_p is_c same _ =
    let head : slice_index_or s.input 0 zero_glyph ≡ c
    = slice_index_or-glyph s.input 0 c some_in (is_c ∙ ap (λ k. slice_index_or s.input k c) (cond-true _ _ _ opened)) in
    let last : slice_index_or s.out (length s.out - 1) zero_glyph ≡ p
    = slice_index_or-glyph s.out (length s.out - 1) p (omega (arith, some_out)) is_p in
    occurs-from_stands (head_of s).cluster (s.out ++ drop 1 s.input)
    (stands_left (head_of s).cluster s.out (drop 1 s.input)
    (length s.out - 1, omega (arith, some_out), ap (λ g. g.cluster) last ∙ same ∙ sym (ap (λ g. g.cluster) head)))
