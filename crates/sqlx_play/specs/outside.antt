-- The outside of the pool on which a script is played.
pub mod ScriptOutside
pub mod ScriptCalls
pub mod PolledReply
