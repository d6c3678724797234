pub mod Trees
pub mod OnceEach
pub mod LaidInPlace
pub mod Undoing
pub mod FreeActs
mod WorkedUndo
pub mod ReadsBack
pub mod UndoBoundLemmas
