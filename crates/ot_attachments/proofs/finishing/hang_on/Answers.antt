use Rattle.std.proofs.Common.{ap, ◌∙◌, rules, w32, to_z, of_z}
use Rattle.std.proofs.lemmas.Int.{to_z-of_z}
use Rattle.std.specs.Int.{int_wrapping_add}
use Rattle.ot_attachments.specs.Offsets.{gone, hung}
use Rattle.ot_attachments.proofs.finishing.hang_on.Goals as goal

pub returns : goal.returns
unfolding hung
returns c =
    let p = c.args.position.now in
    let parent = c.args.parent.now in
    ap (λ x. record p { x_offset = x; y_offset = to_z w32 (of_z w32 c.gone-position-2.result) })
    (to_z-of_z w32 c.gone-position.result (search rules) ∙ c.gone-position.ensures
    ∙ ap (λ far. gone c.args.direction far (int_wrapping_add w32 p.x_offset parent.x_offset)) (to_z-of_z w32 c.args.x (search rules)))
    ∙ ap (λ y. record p { x_offset = gone c.args.direction c.args.x (int_wrapping_add w32 p.x_offset parent.x_offset); y_offset = y })
    (to_z-of_z w32 c.gone-position-2.result (search rules) ∙ c.gone-position-2.ensures
    ∙ ap (λ far. gone c.args.direction far (int_wrapping_add w32 p.y_offset parent.y_offset)) (to_z-of_z w32 c.args.y (search rules)))
