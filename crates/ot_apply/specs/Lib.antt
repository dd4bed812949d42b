pub mod ClusterOrder
pub mod JoinedSyllables
pub mod Masks
pub mod Stages
