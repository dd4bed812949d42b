use Rattle.std.proofs.Common.{◌≡◌, ℕ, ◌+◌, ◌*◌, ◌-◌, take, drop, sym, ap, ◌∙◌, arith}
use Rattle.ot_tags.proofs.RegistryLemmas.{get_or_row}
use Rattle.ot_tags.proofs.registry.row_at.Goals as goal

pub returns-clause-value : goal.returns-clause-value
returns-clause-value c =
    let size : 16 * c.args.number + 16 - 16 * c.args.number ≡ 16 = omega arith in
    ap (λ (m : ℕ). take m (drop (16 * c.args.number) c.args.rows.now)) size
    ∙ sym (get_or_row c.args.rows.now c.args.number c.requires)
