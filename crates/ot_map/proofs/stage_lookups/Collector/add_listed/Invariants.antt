use Rattle.std.proofs.Common.{◌≡◌, ◌+◌, ◌++◌, map, nat_lt, unwrap_or}
use Rattle.std.specs.List.{filter, range_with_len}
use Rattle.ot_map.specs.Lookups.{lookup_with}
use Rattle.ot_map.specs.Tables.{feature_lookup}
use Rattle.ot_map.proofs.stage_lookups.Collector.add_listed.Given as goal

abbrev pub invariant-loop-place : goal.invariant-loop-place
invariant-loop-place l = record {
  left : l.self.left + l.place ≡ l.fn.self.left;
  lookups : l.self.lookups.items
      ≡ l.fn.self.lookups.items
      ++ filter (λ lookup. nat_lt lookup.index l.count)
      (map (λ place. lookup_with l.mask l.flags (unwrap_or (feature_lookup l.feature place) 0)) (range_with_len 0 l.place));
}
