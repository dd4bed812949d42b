use Rattle.std.proofs.Common.{rules, ℕ}
use Rattle.std.proofs.lemmas.Fn.{always_returns_same}
use Rattle.rb_glyph.proofs.row_search.value_of.Goals as goal

pub returns : goal.returns
returns g c =
    let found = c.row_of.ensures (λ (row : ℕ × g.row.V.Denot). row.0)
    (always_returns_same _ _ _ (λ a r q called. search rules)) c.requires in
    rw (← found) (search rules)
