pub mod DirectoryLemmas
pub mod LayoutLemmas
