use Rattle.std.proofs.Common.{length, arith}
use Rattle.std.specs.List.{zip}
use Rattle.std.proofs.lemmas.List.{take_all}
use Rattle.std.proofs.lemmas.List.Elements.{All-same}
use Rattle.std.proofs.lemmas.Slice.Zip.{length-zip}
use Rattle.std.proofs.Common.{◌≤◌, take, sym}
use Rattle.glyph_text.specs.TextReading.{FitsItsFields}
use Rattle.shaping_uses.proofs.ComparingLemmas.{fit_more}
use Rattle.shaping_uses.proofs.comparing.glyphs_fit.Goals as goal

pub loop-i-preserved : goal.loop-i-preserved
loop-i-preserved c = fit_more _ _ _ _ _ c.loop-i-test.true c.requires c.loop-i.invariant c.glyph_fits.ensures

pub returns : goal.returns
returns c =
    let zs = zip c.args.glyphs.now c.args.positions.now in
    let all : length zs ≤ c.loop-i.i =
    omega (arith, length-zip c.args.glyphs.now c.args.positions.now, c.loop-i-test.false, c.requires) in
    All-same FitsItsFields zs (take c.loop-i.i zs) (sym (take_all c.loop-i.i zs all)) c.loop-i.invariant
