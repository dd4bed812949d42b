use Rattle.std.proofs.Common.{arith}
use Rattle.script_universal.proofs.FlagsLemmas.{found_parted, is_one_parted-on, false-parted}
use Rattle.script_universal.proofs.universal.flags.is_one_parted.Goals as goal

pub loop-glyph-preserved : goal.loop-glyph-preserved
loop-glyph-preserved g c = λ test by.
    is_one_parted-on test c.args.masks.now c.args.form c.args.glyphs.now c.loop-glyph.glyph-index _ (omega arith) c.is_parted.result
    c.in_form.result c.in_form.ensures (by _ _ _ c.is_parted.ensures) _ (c.loop-glyph.invariant test by) c.if-is_parted.false

pub returns-then-is_parted : goal.returns-then-is_parted
returns-then-is_parted g c = λ test by.
    found_parted test c.args.masks.now c.args.form c.args.glyphs.now c.loop-glyph.glyph-index _ (omega arith) c.is_parted.result
    c.in_form.result c.in_form.ensures (by _ _ _ c.is_parted.ensures) _ (c.loop-glyph.invariant test by) c.if-is_parted.true

pub returns : goal.returns
returns g c = λ test by.
    false-parted test c.args.masks.now c.args.form c.args.glyphs.now c.loop-glyph.glyph-index _ (omega arith)
    (c.loop-glyph.invariant test by)
