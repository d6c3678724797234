-- The rule of the book behind a history, and what its steps tell.
use Rattle.std.specs.Prelude.{ℕ, ◌≡◌, ◌==◌, true, List, [], ◌∷◌, ◌++◌, length, MatchBool}
use Rattle.logbook.specs.Pages.{Cell, Step, View, Book, Named}
use Rattle.sqlx_pool_history.specs.Chains.{IsChain}

-- the first word is the length of the history, in which each state follows the one before
pub record IsKept {S : Type 0} (follows : S → S → Type 0) (cells : List Cell) (log : List S) : Type 0 where
  pub words : cells ≡ (length log, true) ∷ (0, true) ∷ []
  pub chain : IsChain follows log

-- a book with its name, of which is tracked what is seen
abbrev pub head_of : Book → Named
head_of b = record { tracked = true; key = 0; book = b }

-- the state was added to all that had been seen; or the history was longer, and was seen
abbrev pub Adds : {S : Type 0} → (S → S → Type 0) → Step S → View S ℕ → ℕ → View S ℕ → Type 0
Adds follows s v found w = MatchBool (found == s.old) ((w.0 ≡ v.0 ++ s.ask ∷ []) × IsChain follows w.0) ((length w.0 ≡ found) × IsChain follows w.0)
