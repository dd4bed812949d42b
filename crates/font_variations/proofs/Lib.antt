-- Why numbers change with the place on a font's axes as the specification says.
--
-- A place is mapped along segments: the first pair that is not below it is found, and the maps of the axes stand one
-- behind the other (`SegmentLemmas`). A region's share of a change is a product with a factor an axis: none is nothing
-- until one is, and then the product stays nothing (`RegionLemmas`); floats are compared by their bits (`FloatLemmas`).
-- A tuple's share is such a product too, each factor a slope on one side of a peak, in floats of 64 bits (`TentLemmas`).
-- Of sets of conditions the first holds of which no condition fails (`FeatureLemmas`). Packed numbers are unpacked one by
-- one: of these walks safety and their ends are proved.

pub mod FeatureLemmas
pub mod FloatLemmas
pub mod RegionLemmas
pub mod SegmentLemmas
pub mod TentLemmas
