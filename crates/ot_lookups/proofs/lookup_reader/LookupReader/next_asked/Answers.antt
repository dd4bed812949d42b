use Rattle.std.proofs.Common.{◌≡◌, ◌+◌, ◌<◌, Some, arith, min, nat_lt, slice_get}
use Rattle.ot_lookups.specs.SubtableKinds.{is_chained}
use Rattle.ot_lookups.proofs.NextLemmas.{next_at, next_at_place, slice_get-read}
use Rattle.ot_lookups.proofs.lookup_reader.LookupReader.next_asked.Goals as goal

pub returns : goal.returns
returns c =
    let some : c.in_ok-backtrack.input < 2 → 0 < c.in_ok-backtrack.lookahead = c.has_next.ensures c.if-not-has_next.false in
    let is : slice_get c.args.self.now.coverages.items c.saturating_add.result ≡ Some c.new.result.coverage =
    (let h = c.in_ok-coverage.ensures.lookup in
    slice_get-read _ _ _ c.in_ok-coverage.coverage.now _ c.deref.ensures.value h.3.0 (h.3.1 c.in_ok-coverage.coverage.now) c.new.ensures.asks) in
    let place : c.saturating_add.result ≡ c.args.first + (c.in_ok-backtrack.backtrack + min c.in_ok-backtrack.input 1) =
    (let h = c.in_ok-coverage.ensures.lookup in
    next_at_place _ _ _ _ _ _ _ _ c.saturating_add.ensures h.3.0 (omega arith) c.from-2.ensures c.from-3.ensures c.min.ensures) in
    let is_input : c.new.result.is_input ≡ nat_lt 1 c.in_ok-backtrack.input = c.new.ensures.input in
    next_at c.args.self.now.coverages.items c.args.first (is_chained c.args.kind) c.args.table.now c.new.result
    c.in_ok-backtrack.backtrack c.in_ok-backtrack.input c.in_ok-backtrack.lookahead c.saturating_add.result
    c.in_ok-backtrack.ensures.backtrack c.in_ok-backtrack.ensures.input c.in_ok-backtrack.ensures.lookahead some is place is_input
