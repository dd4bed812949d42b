use Rattle.font_tables.proofs.RowLemmas.{NoneBelow}
use Rattle.font_variations.specs.SegmentMaps.{is_up_to}
use Rattle.font_variations.proofs.segment_maps.segment_of.Given as goal

-- the coordinate is above those of the pairs so far
abbrev pub invariant-loop-number : goal.invariant-loop-number
invariant-loop-number l = NoneBelow (is_up_to l.map l.coordinate) l.number
