-- Each turn keeps what the text is to become, with its clusters (`Turns`). When all is read, the output is closed over what was
-- put out, and with nothing left that is the composed text. Its clusters are in order, as each pair leaves them so.
use Rattle.std.proofs.Common.{◌≡◌, ◌+◌, ◌-◌, length, sym, ap, ◌∙◌, subst, arith, rules}
use Rattle.glyph_lists.specs.Clusters.{IsMonotone}
use Rattle.shaping_buffer.specs.ClusterStep.{any_order}
use Rattle.std.proofs.lemmas.Bool.{cond-true, cond-false}
use Rattle.shaping_buffer.specs.State.{State, len, lookahead_len}
use Rattle.glyph_laws.specs.Cores.{cores}
use Rattle.shaping_passes.proofs.NormalizationCompositionLemmas.{turns_begun, last_state, last_cores, last_glyphs}
use Rattle.shaping_passes.proofs.NormalizationMergesLemmas.{order_kept}
use Rattle.shaping_passes.proofs.normalization.composition.compose_marks.Goals as goal

pub loop-starter-init : goal.loop-starter-init
loop-starter-init g c =
    let s = c.args.buffer.now in
    let n : len s ≡ length s.input = cond-false _ _ _ c.requires in
    turns_begun (g.P.CharacterPairs.pairs c.args.compositions.now) (g.C.MarkClasses.classes c.args.classes.now)
    (g.met.C.MarkClasses.alike c.args.classes.now) (g.met.P.CharacterPairs.alike c.args.compositions.now) s c.clear_output.new.self c.clear_output.ensures.is
    (search rules) (omega (arith, n, c.len.ensures.within))

pub returns-clause-composed : goal.returns-clause-composed
returns-clause-composed g c = λ _.
    let s = c.args.buffer.now in
    let t = c.loop-starter.buffer in
    let k = c.loop-starter.invariant in
    let e : lookahead_len t ≡ t.idx + length t.input - t.idx = ap (λ n. n - t.idx) (cond-true _ _ _ k.ready.opened) in
    let none : length t.input ≡ 0 = omega (arith, e, c.lookahead_len.ensures) in
    ap (λ (x : State). cores x.input)
    (last_state (g.P.CharacterPairs.pairs c.args.compositions.now) (g.C.MarkClasses.classes c.args.classes.now)
    (g.met.C.MarkClasses.alike c.args.classes.now) (g.met.P.CharacterPairs.alike c.args.compositions.now) s t c.loop-starter.starter k none c.sync.result c.sync.new.self
    c.sync.ensures.meets)
    ∙ last_cores (g.P.CharacterPairs.pairs c.args.compositions.now) (g.C.MarkClasses.classes c.args.classes.now)
    (g.met.C.MarkClasses.alike c.args.classes.now) (g.met.P.CharacterPairs.alike c.args.compositions.now) s t c.loop-starter.starter k none

pub returns-clause-glyphs : goal.returns-clause-glyphs
returns-clause-glyphs g c = λ _.
    let s = c.args.buffer.now in
    let t = c.loop-starter.buffer in
    let k = c.loop-starter.invariant in
    let e : lookahead_len t ≡ t.idx + length t.input - t.idx = ap (λ n. n - t.idx) (cond-true _ _ _ k.ready.opened) in
    let none : length t.input ≡ 0 = omega (arith, e, c.lookahead_len.ensures) in
    ap (λ (x : State). x.input)
    (last_state (g.P.CharacterPairs.pairs c.args.compositions.now) (g.C.MarkClasses.classes c.args.classes.now)
    (g.met.C.MarkClasses.alike c.args.classes.now) (g.met.P.CharacterPairs.alike c.args.compositions.now) s t c.loop-starter.starter k none c.sync.result c.sync.new.self
    c.sync.ensures.meets)
    ∙ last_glyphs (g.P.CharacterPairs.pairs c.args.compositions.now) (g.C.MarkClasses.classes c.args.classes.now)
    (g.met.C.MarkClasses.alike c.args.classes.now) (g.met.P.CharacterPairs.alike c.args.compositions.now) s t c.loop-starter.starter k none

pub returns-clause-monotone : goal.returns-clause-monotone
returns-clause-monotone g c = λ order.
    let s = c.args.buffer.now in
    let t = c.loop-starter.buffer in
    let k = c.loop-starter.invariant in
    let e : lookahead_len t ≡ t.idx + length t.input - t.idx = ap (λ n. n - t.idx) (cond-true _ _ _ k.ready.opened) in
    let none : length t.input ≡ 0 = omega (arith, e, c.lookahead_len.ensures) in
    subst IsMonotone
    (sym (ap (λ (x : State). x.input)
    (last_state (g.P.CharacterPairs.pairs c.args.compositions.now) (g.C.MarkClasses.classes c.args.classes.now)
    (g.met.C.MarkClasses.alike c.args.classes.now) (g.met.P.CharacterPairs.alike c.args.compositions.now) s t c.loop-starter.starter k none c.sync.result c.sync.new.self
    c.sync.ensures.meets)
    ∙ last_glyphs (g.P.CharacterPairs.pairs c.args.compositions.now) (g.C.MarkClasses.classes c.args.classes.now)
    (g.met.C.MarkClasses.alike c.args.classes.now) (g.met.P.CharacterPairs.alike c.args.compositions.now) s t c.loop-starter.starter k none))
    (order_kept (g.P.CharacterPairs.pairs c.args.compositions.now) (g.C.MarkClasses.classes c.args.classes.now)
    (g.met.C.MarkClasses.alike c.args.classes.now) (g.met.P.CharacterPairs.alike c.args.compositions.now) (any_order s) s.input order)
