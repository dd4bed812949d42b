pub mod ApplyContext
pub mod Budget
pub mod LigatureParts
pub mod SkippingIterator
