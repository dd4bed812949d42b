pub mod Commands
pub mod Queries
pub mod Replies
pub mod Session
pub mod StateText
pub mod Transcript
pub mod Words
