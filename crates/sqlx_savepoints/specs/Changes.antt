-- What changes the brackets and the rows of the connections.
use Rattle.std.specs.Prelude.{ℕ, ℤ, Option, List}

-- a bracket is opened, a key is written (its value, or none), the newest open bracket is committed or rolled back, or the connection is gone
pub data Change : Type 0 where
  opens : ℕ → Change
  writes : ℕ → ℤ → Option ℤ → Change
  commits : ℕ → Change
  rolls_back : ℕ → Change
  leaves : ℕ → Change

-- the connection on which it happens
abbrev pub connection_of : Change → ℕ
connection_of (opens c) = c
connection_of (writes c key value) = c
connection_of (commits c) = c
connection_of (rolls_back c) = c
connection_of (leaves c) = c

-- what happened on all connections, the newest first
abbrev pub History : Type 0
History = List Change
