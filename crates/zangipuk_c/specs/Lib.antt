pub mod Told
pub mod Replies
pub mod MarkReplies
pub mod Logged
pub mod Continues
pub mod Answers
pub mod Steps
pub mod Room
