-- Why boxes around points are those of the outline: each point is one step of a fold (`BoundsLemmas`).

pub mod BoundsLemmas
