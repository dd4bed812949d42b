use Rattle.std.proofs.Common.{ap, sym, ◌∙◌, ◌++◌, get_or}
use Rattle.glyph_sides.proofs.CharactersLemmas.{glyph_at}
use Rattle.shaping_session.specs.StateText.{item_text, space_before}
use Rattle.shaping_session.proofs.StateTextLemmas.{join_with_byte-one_more}
use Rattle.shaping_session.proofs.state_text.print_items.Goals as goal

pub loop-i-preserved : goal.loop-i-preserved
loop-i-preserved c =
    c.in_ok-write_item.ensures
    ∙ ap (λ t. t ++ item_text (get_or c.args.items.now c.loop-i.i (glyph_at 0 0)))
    (c.in_ok-write_space.ensures ∙ ap (λ t. t ++ space_before c.loop-i.i) c.loop-i.invariant)
    ∙ sym (join_with_byte-one_more item_text c.args.items.now c.loop-i.i (glyph_at 0 0) c.loop-i-test.true)
