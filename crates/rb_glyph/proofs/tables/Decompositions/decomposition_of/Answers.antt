use Rattle.std.proofs.Common.{rules, ◌≡◌, ◌==◌, ℕ, Option, option_map, unwrap_or}
use Rattle.std.specs.List.{find}
use Rattle.std.proofs.lemmas.Fn.{always_returns_same}
use Rattle.rb_glyph.proofs.tables.Decompositions.decomposition_of.Goals as goal

pub returns : goal.returns
returns c =
    let found = c.row_of.ensures (λ (row : ℕ × ℕ × Option ℕ). row.0)
    (always_returns_same _ _ _ (λ a r q called. search rules)) c.self.invariant in
    let value : c.map.result ≡ option_map (λ (row : ℕ × ℕ × Option ℕ). (row.1, unwrap_or row.2 0))
    (find (λ row. row.0 == c.args.c) c.self.inside.rows.now) = rw (← found) (search rules) in
    rw (← c.self.view_is) value
