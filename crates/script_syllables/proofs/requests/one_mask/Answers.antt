use Rattle.std.proofs.Common.{ℕ, subst}
use Rattle.ot_map.specs.Masks.{value_in}
use Rattle.ot_map.specs.Plan.{IsReadOf}
use Rattle.script_syllables.proofs.requests.one_mask.Goals as goal

pub returns : goal.returns
returns c =
    subst (λ (tag : ℕ). IsReadOf c.args.layout.now.features.items tag (λ f. value_in f.bits.shift f.bits.count 1) 0 c.one_mask.result)
    c.from_bytes.ensures c.one_mask.ensures
