pub mod Actions
pub mod Insertions
pub mod Left
pub mod Alike
pub mod Deletion
