use Rattle.std.proofs.Common.{set, get_or, sym, ap, ◌∙◌}
use Rattle.std.proofs.lemmas.Bool.{cond-true, cond-false}
use Rattle.std.proofs.lemmas.List.{set-get_or}
use Rattle.std.specs.Prelude.{None}
use Rattle.glyph_lists.specs.Clusters.{zero_glyph}
use Rattle.ot_characters.specs.Properties.{before, continued, goes_on}
use Rattle.ot_characters.proofs.text.join_grapheme.Goals as goal

pub returns-then-continues_grapheme : goal.returns-then-continues_grapheme
returns-then-continues_grapheme c =
    let l = c.args.infos.now in
    let g = get_or l c.args.i zero_glyph in
    ap (set l c.args.i)
    (c.set_continuation.ensures.is
    ∙ sym (cond-true (goes_on (before None c.args.i l) g) (continued g) g
    (sym c.continues_grapheme.ensures ∙ c.if-continues_grapheme.true)))

pub returns-else-continues_grapheme : goal.returns-else-continues_grapheme
returns-else-continues_grapheme c =
    let l = c.args.infos.now in
    let g = get_or l c.args.i zero_glyph in
    sym
    (ap (set l c.args.i)
    (cond-false (goes_on (before None c.args.i l) g) (continued g) g
    (sym c.continues_grapheme.ensures ∙ c.if-continues_grapheme.false))
    ∙ set-get_or l c.args.i zero_glyph)
