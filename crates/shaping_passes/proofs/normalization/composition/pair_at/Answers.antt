use Rattle.std.proofs.Common.{◌≡◌, ◌-◌, ◌≤◌, List, length, get_or, sym, ap, ◌∙◌, arith}
use Rattle.rb_glyph.specs.declared.info.hb_glyph_info_t.{hb_glyph_info_t}
use Rattle.glyph_lists.specs.Clusters.{zero_glyph}
use Rattle.shaping_buffer.specs.ClusterStep.{head_of}
use Rattle.shaping_passes.proofs.NormalizationPairLemmas.{head_now}
use Rattle.shaping_passes.proofs.NormalizationCompositionLemmas.{pair_blocked, pair_next, pair_low}
use Rattle.shaping_passes.proofs.normalization.composition.pair_at.Goals as goal
use Rattle.shaping_passes.proofs.normalization.composition.pair_at.Goals.{else-at-last-via-then-at-last+else-class_of}
use Rattle.shaping_passes.proofs.normalization.composition.pair_at.Goals.{else-at-last-via-else-at-last}

pub returns-then-class_of : goal.returns-then-class_of
returns-then-class_of g c =
    let s = c.args.buffer.now in
    let classes = g.C.MarkClasses.classes c.args.classes.now in
    let alike = g.met.C.MarkClasses.alike c.args.classes.now in
    let pairs_alike = g.met.P.CharacterPairs.alike c.args.compositions.now in
    let out = c.out_info-out.ensures in
    let head = head_now s c.cur-info.result.now c.requires.opened c.requires.some c.cur-info.ensures in
    let last = ap (λ (l : List hb_glyph_info_t). classes (get_or l (length l - 1) zero_glyph)) out in
    let high : classes (head_of s) ≤ classes (get_or s.out (length s.out - 1) zero_glyph) =
    omega (
      arith,
      ap classes head,
      last,
      c.class_of.ensures,
      c.class_of-then-at-last.ensures,
      c.if-class_of.true,
    ) in
    sym (pair_blocked (g.P.CharacterPairs.pairs c.args.compositions.now) classes alike pairs_alike s.out c.args.at (head_of s) c.requires.place
    (omega (arith, ap length out, c.if-at-last.true)) high)

pub returns : goal.returns
returns g c =
    let s = c.args.buffer.now in
    let pairs = g.P.CharacterPairs.pairs c.args.compositions.now in
    let classes = g.C.MarkClasses.classes c.args.classes.now in
    let alike = g.met.C.MarkClasses.alike c.args.classes.now in
    let pairs_alike = g.met.P.CharacterPairs.alike c.args.compositions.now in
    let at = c.args.at in
    let out = c.out_info-out.ensures in
    let head = head_now s c.cur-info.result.now c.requires.opened c.requires.some c.cur-info.ensures in
    let last = ap (λ (l : List hb_glyph_info_t). classes (get_or l (length l - 1) zero_glyph)) out in
    let asked : c.composed_of.result ≡ pairs (get_or s.out at zero_glyph) (head_of s) =
    c.composed_of.ensures
    ∙ ap (λ (l : List hb_glyph_info_t). pairs (get_or l at zero_glyph) c.cur-info.result.now) out
    ∙ ap (pairs (get_or s.out at zero_glyph)) head in
    asked ∙ sym (elim c.else-at-last.branch [
      | else-at-last-via-then-at-last+else-class_of w ↦ pair_low pairs classes alike pairs_alike s.out at (head_of s) c.requires.place
          (omega (arith, ap length out, w.if-at-last.true))
          (omega (
            arith,
            ap classes head,
            last,
            w.class_of.ensures,
            w.class_of-then-at-last.ensures,
            w.if-class_of.false,
          ))
      | else-at-last-via-else-at-last w ↦ pair_next pairs classes alike pairs_alike s.out at (head_of s) c.requires.place
          (omega (arith, ap length out, w.if-at-last.false))
    ])
