pub mod ChangedAt
pub mod ClusterFlags
pub mod Ending
pub mod FallbackMarks
pub mod FontPositions
pub mod Tracking
pub mod Widths
