use Rattle.std.proofs.Common.{ℕ, List, ap, ◌+◌, ◌∙◌}
use Rattle.glyph_lists.specs.Marks.{with_glyph_flags}
use Rattle.glyph_lists.specs.Parts.{map_range}
use Rattle.rb_glyph.specs.declared.info.hb_glyph_info_t.{hb_glyph_info_t}
use Rattle.ot_apply.specs.Masks.{fraction_masked, mask_before, mask_behind}
use Rattle.ot_apply.proofs.masks.add_fraction_masks.Goals as goal

pub returns : goal.returns
unfolding fraction_masked
returns c =
    let plan = c.args.plan.now in
    let start = c.args.start in
    let slash = c.args.slash in
    let end = c.args.end in
    let l = c.args.infos.now in
    let third = λ (xs : List hb_glyph_info_t). map_range (with_glyph_flags (mask_behind plan c.args.direction)) xs (slash + 1) end in
    let second = λ (xs : List hb_glyph_info_t). map_range (with_glyph_flags plan.frac_mask) xs slash (slash + 1) in
    c.add_mask_from-3.ensures
    ∙ ap (λ (m : ℕ). map_range (with_glyph_flags m) c.add_mask_from-2.new.infos (slash + 1) end) c.mask_behind.ensures
    ∙ ap third c.add_mask_from-2.ensures
    ∙ ap (λ (xs : List hb_glyph_info_t). third (second xs)) (c.add_mask_from.ensures
    ∙ ap (λ (m : ℕ). map_range (with_glyph_flags m) l start slash) c.mask_before.ensures)
