use Rattle.std.proofs.Common.{ℕ, ap, ◌∙◌}
use Rattle.script_items.specs.Item.{with_shaper_byte}
use Rattle.script_joining.specs.Joining.{number_of_type}
use Rattle.script_joining.specs.Listed.{joining_type, with_type}
use Rattle.script_joining.proofs.joining.forms.set_type.Goals as goal

pub returns : goal.returns
unfolding with_type
returns c =
    let g = c.args.info.now in
    c.set_shaper_byte.ensures
    ∙ ap (λ (n : ℕ). with_shaper_byte n g)
    (c.number.ensures
    ∙ ap number_of_type (c.joining_type-kind.ensures ∙ ap (joining_type g.glyph_id) c.is_mark_or_format.ensures))
