use Rattle.std.proofs.Common.{◌≡◌, length, None, refl, arith, rules}
use Rattle.std.proofs.lemmas.Bool.{cond-false}
use Rattle.shaping_buffer.specs.State.{len}
use Rattle.shaping_passes.proofs.NormalizationCompositionLemmas.{turns_begun}
use Rattle.ot_normalization.proofs.normalization.recomposition.recompose_all.Goals as goal

pub loop-starter-init : goal.loop-starter-init
loop-starter-init g c =
    let s = c.args.buffer.now in
    let n : len s ≡ length s.input = cond-false _ _ _ c.requires in
    let begun = turns_begun (λ _ _. None) (λ _. 0) (λ _. refl) (λ _ _. refl) s c.clear_output.new.self
    c.clear_output.ensures.is (search rules) (omega (arith, n, c.len.ensures.within)) in
    (begun.ready, tt, c.clear_output.ensures.keeps)
