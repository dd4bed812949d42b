use Rattle.std.proofs.Common.{◌≡◌, ℕ, ◌<◌, ◌≤◌, pos, get_or}
use Rattle.font_variations.specs.SegmentMaps.{mapped, maps_from}
use Rattle.font_variations.proofs.segment_maps.AxisMaps.map_segments.Given as goal

-- the coordinates so far are moved, and the others stand as they did
abbrev pub invariant-loop-axis : goal.invariant-loop-axis
invariant-loop-axis l = record {
  rest : l.rest ≡ maps_from l.self.maps.now l.axis;
  moved : (k : ℕ) → k < l.axis → get_or l.coordinates k (pos 0) ≡ mapped (maps_from l.self.maps.now k) (get_or l.fn.coordinates k (pos 0));
  same : (k : ℕ) → l.axis ≤ k → get_or l.coordinates k (pos 0) ≡ get_or l.fn.coordinates k (pos 0);
}
