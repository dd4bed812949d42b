pub mod Anchors
pub mod Devices
pub mod KernTable
pub mod Pairs
pub mod Values
pub mod Corrections
pub mod Instance
