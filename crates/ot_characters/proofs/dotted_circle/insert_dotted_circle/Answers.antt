use Rattle.std.proofs.Common.{sym, ◌∙◌}
use Rattle.std.proofs.lemmas.Bool.{and_left, and_right}
use Rattle.ot_characters.specs.Circle.{wants_circle}
use Rattle.ot_characters.proofs.CircleLemmas.{inserts-none, inserts-circle}
use Rattle.ot_characters.proofs.dotted_circle.insert_dotted_circle.Goals as goal

pub returns-then-not-wants_circle-clause-inserts : goal.returns-then-not-wants_circle-clause-inserts
returns-then-not-wants_circle-clause-inserts g c =
    let has = g.F.FontFunctions.has c.args.font.now in
    let s = c.args.buffer.now in
    inserts-none has s
    (and_left (wants_circle s) (has 0x25CC) (sym c.wants_circle.ensures.is ∙ c.if-not-wants_circle.true))

pub returns-then-not-has_circle-clause-inserts : goal.returns-then-not-has_circle-clause-inserts
returns-then-not-has_circle-clause-inserts g c =
    let has = g.F.FontFunctions.has c.args.font.now in
    let s = c.args.buffer.now in
    inserts-none has s (and_right (wants_circle s) (has 0x25CC) (sym c.has_circle.ensures ∙ c.if-not-has_circle.true))

pub returns-clause-inserts : goal.returns-clause-inserts
returns-clause-inserts g c =
    inserts-circle (g.F.FontFunctions.has c.args.font.now) c.args.buffer.now c.insert_circle.new.buffer c.insert_circle.result
    (sym c.wants_circle.ensures.is ∙ c.if-not-wants_circle.false) (sym c.has_circle.ensures ∙ c.if-not-has_circle.false)
    c.insert_circle.ensures.inserts
