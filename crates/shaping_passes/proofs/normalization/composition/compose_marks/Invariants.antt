use Rattle.std.proofs.Common.{length}
use Rattle.shaping_passes.proofs.NormalizationCompositionLemmas.{Turns}
use Rattle.shaping_passes.proofs.normalization.composition.compose_marks.Given as goal

abbrev pub invariant-loop-starter : goal.invariant-loop-starter
invariant-loop-starter g l = Turns (g.P.CharacterPairs.pairs l.compositions) (g.C.MarkClasses.classes l.classes) (g.met.C.MarkClasses.alike l.classes)
    (g.met.P.CharacterPairs.alike l.compositions) l.fn.buffer l.buffer l.starter

abbrev pub decreases-loop-starter : goal.decreases-loop-starter
decreases-loop-starter g l = length l.buffer.input
