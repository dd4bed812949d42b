pub mod HeldFile
pub mod KeptAdvances
pub mod Synthetic
pub mod SyntheticFont
