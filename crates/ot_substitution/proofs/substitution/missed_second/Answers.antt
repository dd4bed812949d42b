use Rattle.std.proofs.Common.{◌≡◌, false, arith, sym, ◌∙◌}
use Rattle.glyph_digests.specs.Digest.{may_have}
use Rattle.ot_lookups.specs.Sets.{set_at}
use Rattle.ot_contexts.proofs.SecondsLemmas.{first_of-missed}
use Rattle.ot_substitution.proofs.substitution.missed_second.Goals as goal
use Rattle.ot_layout.specs.ApplyContext.{input_iterator}
use Rattle.ot_contexts.specs.Neighbours.{IsNext}

pub returns-in-Some-seconds : goal.returns-in-Some-seconds
returns-in-Some-seconds c = λ index.
    let seconds = c.in-Some-seconds.seconds in
    let next = c.in-Some.next in
    let has = c.args.subtable.now.ligatures seconds c.in-Some-seconds.is index in
    let is : IsNext (input_iterator c.args._sides.now) c.args._sides.now.input.now 0 next = rw c.in-Some.is at c.requires.next in
    let out = sym c.may_have.ensures ∙ c.if-not-may_have.true in
    let none : may_have seconds next.glyph ≡ false = rw c.in-Some-seconds.is at out in
    first_of-missed c.args._sides.now (set_at c.args.subtable.now.table.now index) seconds next _ has is none
    (omega arith)
