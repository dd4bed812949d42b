use Rattle.std.proofs.Common.{◌≡◌, ◌≤◌, Some, length}
use Rattle.font_variations.specs.SegmentMaps.{end_of}
use Rattle.font_variations.proofs.segment_maps.behind_maps.Given as goal

-- where the maps so far end
abbrev pub invariant-loop-map : goal.invariant-loop-map
invariant-loop-map l = record {
  is : end_of l.maps l._map ≡ Some l.at;
  inside : l.at ≤ length l.maps;
}
