-- The bisection finds a range exactly where some range holds the character.
use Rattle.std.proofs.Common.{rules, ◌≡◌, ◌∙◌, ap, is_some, Bor, Option, Some, None, refl}
use Rattle.std.specs.Option.{option_copied}
use Rattle.std.proofs.lemmas.Fn.{always_returns_same}
use Rattle.rb_glyph.specs.Search.{range_order}
use Rattle.rb_glyph.proofs.RisingRows.{ranges_searchable, ranges_found, range_found}
use Rattle.rb_glyph.proofs.row_search.holds.Goals as goal

is_some_copied : {R : Type 0} (found : Option (Bor R)) → is_some found ≡ is_some (option_copied found)
is_some_copied None = refl
is_some_copied (Some row) = refl

pub returns : goal.returns
returns c =
    let ranges = c.args.ranges.now in
    let found = c.row_at.ensures (range_order c.args.c) (always_returns_same _ _ _ (λ a r q called. search rules))
    (ranges_searchable (λ r. r) c.args.c ranges c.requires) in
    c.is_some.ensures ∙ is_some_copied c.row_at.result ∙ ap is_some (found ∙ ranges_found (λ r. r) c.args.c ranges)
    ∙ range_found c.args.c ranges
