-- A turn keeps what the text is to become (`same`), and what its clusters are to become (`glyphs`). Each case of the code is
-- one of the definition: the character makes a pair with the last starter, it is kept behind that, or there is no starter.
use Rattle.shaping_buffer.specs.ClusterStep.{any_order}
use Rattle.shaping_passes.proofs.NormalizationCompositionLemmas.{same_paired, same_kept, same_first}
use Rattle.shaping_passes.proofs.NormalizationMergesLemmas.{glyphs_paired, glyphs_kept, glyphs_first}
use Rattle.shaping_passes.proofs.normalization.composition.next_turn.Goals as goal

pub returns-in-Some-pair_at-clause-same : goal.returns-in-Some-pair_at-clause-same
returns-in-Some-pair_at-clause-same g c =
    same_paired (g.P.CharacterPairs.pairs c.args.compositions.now) (g.C.MarkClasses.classes c.args.classes.now)
    (g.met.C.MarkClasses.alike c.args.classes.now) (g.met.P.CharacterPairs.alike c.args.compositions.now)
    c.args.buffer.now c.requires.some c.args.starter c.in-Some.at c.in-Some.is c.requires.place c.in-Some-pair_at.id
    c.in-Some-pair_at.ensures c.compose_pair.new.buffer c.compose_pair.ensures.out c.compose_pair.ensures.input

pub returns-in-None-pair_at-clause-same : goal.returns-in-None-pair_at-clause-same
returns-in-None-pair_at-clause-same g c =
    same_kept (g.P.CharacterPairs.pairs c.args.compositions.now) (g.C.MarkClasses.classes c.args.classes.now)
    (g.met.C.MarkClasses.alike c.args.classes.now) (g.met.P.CharacterPairs.alike c.args.compositions.now)
    c.args.buffer.now c.requires.some c.args.starter c.in-Some.at c.in-Some.is c.requires.place c.in-None-pair_at.ensures
    c.keep_behind.result c.keep_behind.new.buffer c.keep_behind.ensures.starter c.keep_behind.ensures.kept

pub returns-in-None-clause-same : goal.returns-in-None-clause-same
returns-in-None-clause-same g c =
    same_first (g.P.CharacterPairs.pairs c.args.compositions.now) (g.C.MarkClasses.classes c.args.classes.now)
    (g.met.C.MarkClasses.alike c.args.classes.now) (g.met.P.CharacterPairs.alike c.args.compositions.now)
    c.args.buffer.now c.requires.some c.args.starter c.keep_behind-in-None.result c.keep_behind-in-None.new.buffer
    c.in-None.is c.keep_behind-in-None.ensures.starter c.keep_behind-in-None.ensures.kept

pub returns-in-Some-pair_at-clause-glyphs : goal.returns-in-Some-pair_at-clause-glyphs
returns-in-Some-pair_at-clause-glyphs g c =
    glyphs_paired (g.P.CharacterPairs.pairs c.args.compositions.now) (g.C.MarkClasses.classes c.args.classes.now)
    (g.met.C.MarkClasses.alike c.args.classes.now) (g.met.P.CharacterPairs.alike c.args.compositions.now)
    (any_order c.args.buffer.now) c.args.buffer.now c.requires.some c.args.starter c.in-Some.at c.in-Some.is
    c.requires.place c.in-Some-pair_at.id c.in-Some-pair_at.ensures c.compose_pair.new.buffer c.compose_pair.ensures.out
    c.compose_pair.ensures.input c.compose_pair.ensures.glyphs

pub returns-in-None-pair_at-clause-glyphs : goal.returns-in-None-pair_at-clause-glyphs
returns-in-None-pair_at-clause-glyphs g c =
    glyphs_kept (g.P.CharacterPairs.pairs c.args.compositions.now) (g.C.MarkClasses.classes c.args.classes.now)
    (g.met.C.MarkClasses.alike c.args.classes.now) (g.met.P.CharacterPairs.alike c.args.compositions.now)
    (any_order c.args.buffer.now) c.args.buffer.now c.requires.some c.args.starter c.in-Some.at c.in-Some.is
    c.requires.place c.in-None-pair_at.ensures c.keep_behind.result c.keep_behind.new.buffer
    c.keep_behind.ensures.starter c.keep_behind.ensures.kept

pub returns-in-None-clause-glyphs : goal.returns-in-None-clause-glyphs
returns-in-None-clause-glyphs g c =
    glyphs_first (g.P.CharacterPairs.pairs c.args.compositions.now) (g.C.MarkClasses.classes c.args.classes.now)
    (g.met.C.MarkClasses.alike c.args.classes.now) (g.met.P.CharacterPairs.alike c.args.compositions.now)
    (any_order c.args.buffer.now) c.args.buffer.now c.requires.some c.args.starter c.keep_behind-in-None.result
    c.keep_behind-in-None.new.buffer c.in-None.is c.keep_behind-in-None.ensures.starter
    c.keep_behind-in-None.ensures.kept
