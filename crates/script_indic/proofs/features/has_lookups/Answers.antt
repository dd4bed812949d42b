use Rattle.std.proofs.Common.{ℕ, refl, subst, vec_len}
use Rattle.ot_map.specs.Plan.{IsReadOf}
use Rattle.ot_map.specs.Stages.{places_of_stage}
use Rattle.script_indic.proofs.features.has_lookups.Goals as goal

pub returns : goal.returns
returns c =
    let layout = c.args.layout.now in
    let places : ℕ × ℕ = (c.stage_places-places.result.start, c.stage_places-places.result.end) in
    let read = subst (λ (tag : ℕ). IsReadOf layout.features.items tag
    (λ f. places_of_stage layout.stages.items (vec_len layout.gsub_lookups) f.stage) (0, 0) places) c.from_bytes.ensures
    c.stage_places-places.ensures in
    (places, (read, refl))
