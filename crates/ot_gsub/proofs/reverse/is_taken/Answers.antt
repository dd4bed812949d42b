use Rattle.std.proofs.Common.{ap, arith, length, sym}
use Rattle.std.proofs.lemmas.Bool.{false≢true}
use Rattle.ot_gsub.proofs.ReverseLemmas.{takes-past}
use Rattle.ot_gsub.proofs.reverse.is_taken.Goals as goal

pub returns-then-place-glyphs-clause-takes : goal.returns-then-place-glyphs-clause-takes
returns-then-place-glyphs-clause-takes c =
    sym (takes-past c.args.substitutions.now c.args.lookup.now c.args.place c.args.buffer.now
    (omega (arith, c.if-place-glyphs.true, ap length c.info-glyphs.ensures)))

pub returns-then-place-glyphs-clause-within : goal.returns-then-place-glyphs-clause-within
returns-then-place-glyphs-clause-within c = λ holds. absurd (false≢true holds)

pub returns-clause-within : goal.returns-clause-within
returns-clause-within c = λ holds. omega (arith, c.if-place-glyphs.false, ap length c.info-glyphs.ensures)
