use Rattle.std.proofs.Common.{rules}
use Rattle.std.proofs.lemmas.List.Sorted.{IsPartitionPoint-from_clause}
use Rattle.rb_text.proofs.TableRows.{stands_below, low_rows_first, same_rows, still_table, none_lower}
use Rattle.rb_text.proofs.language_table.rows_from.Goals as goal

pub returns-clause-same : goal.returns-clause-same
returns-clause-same c =
    let key = c.args.key.now in
    let rows = c.args.rows.now in
    let start = c.partition_point-start in
    let split = IsPartitionPoint-from_clause (stands_below key) rows start.result start.ensures.partitioned
    (low_rows_first key rows c.requires) (λ a r f called. search rules) in
    rw c.split_at.ensures.back (same_rows key rows start.result start.ensures.bound split.0)

pub returns-clause-table : goal.returns-clause-table
returns-clause-table c =
    rw c.split_at.ensures.back (still_table c.args.key.now c.args.rows.now c.partition_point-start.result c.requires)

pub returns-clause-from : goal.returns-clause-from
returns-clause-from c =
    let key = c.args.key.now in
    let rows = c.args.rows.now in
    let start = c.partition_point-start in
    let split = IsPartitionPoint-from_clause (stands_below key) rows start.result start.ensures.partitioned
    (low_rows_first key rows c.requires) (λ a r f called. search rules) in
    rw c.split_at.ensures.back (none_lower key rows start.result split.1)
