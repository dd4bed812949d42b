use Rattle.std.proofs.Common.{◌≤◌, ◌+◌, ◌-◌, arith}
use Rattle.glyph_digests.proofs.DigestLemmas.{all_rows, or_left, or_right}
use Rattle.glyph_digests.proofs.digest.with_rows.Goals as goal

pub returns-then-more-clause-added : goal.returns-then-more-clause-added
returns-then-more-clause-added c = λ row least most. all_rows row

pub returns-then-more-clause-kept : goal.returns-then-more-clause-kept
returns-then-more-clause-kept c = λ row has. all_rows row

pub returns-else-more-clause-added : goal.returns-else-more-clause-added
returns-else-more-clause-added c = λ row least most.
    let near : row ≤ c.args.first + (c.args.last - c.args.first) = omega arith in
    or_right c.args.word _ row (c.rows_from.ensures row least (omega (arith, near)))

pub returns-else-more-clause-kept : goal.returns-else-more-clause-kept
returns-else-more-clause-kept c = λ row has. or_left c.args.word _ row has
