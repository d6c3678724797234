-- Named savepoints on several connections over the same committed rows.
use Rattle.std.specs.Prelude.{◌≡◌, ℕ, ◌==◌, ◌<◌, ◌≤◌, if◌then◌else◌, IsSome, ℤ, List, [], ◌∷◌}
use Rattle.std.specs.FinMap.{empty}
use Rattle.sqlx_savepoints.specs.Rows.{Rows, Writes, sees}
use Rattle.sqlx_savepoints.specs.Texts.{begin_at, commit_at, rollback_at}
use Rattle.sqlx_savepoints.specs.NamedSavepoints.{Named, Entry, dropped}
use Rattle.sqlx_savepoints.specs.NamedSavepoints as named
use Rattle.sqlx_savepoints.specs.Levels.{begins, named_step}
use Rattle.sqlx_savepoints.specs.Levels as levels
use Rattle.sqlx_savepoints.specs.Changes.{Change, opens, writes, commits, rolls_back, leaves, History}
use Rattle.sqlx_savepoints.specs.Brackets.{depth, value}

-- one connection's own side
pub record Link : Type 0 where
  pub own : Writes
  pub entries : List Entry
  pub depth : ℕ

-- the committed rows, and every connection
pub record Linked : Type 0 where
  pub rows : Rows
  pub link : ℕ → Link

-- a connection without a level
abbrev pub new_link : Link
new_link = record { own = empty; entries = []; depth = 0 }

-- no rows, no levels
abbrev pub new_linked : Linked
new_linked = record { rows = empty; link = λ c. new_link }

-- the state of one connection, as named savepoints have it
abbrev pub named_at : ℕ → Linked → Named
named_at c linked = record { rows = linked.rows; own = (linked.link c).own; entries = (linked.link c).entries; depth = (linked.link c).depth }

-- a connection's own side of a state
abbrev pub link_of : Named → Link
link_of state = record { own = state.own; entries = state.entries; depth = state.depth }

-- every connection, after one has come to this state
abbrev pub moved : ℕ → Named → Linked → Linked
moved c state linked = record { rows = state.rows; link = λ d. if d == c then link_of state else linked.link d }

-- after a change, run by the ANSI text at the connection's depth
abbrev pub linked_changed : Linked → Change → Linked
linked_changed linked (opens c) = moved c (named_step begins (named_at c linked)) linked
linked_changed linked (writes c key value) = moved c (named_step (levels.writes key value) (named_at c linked)) linked
linked_changed linked (commits c) = moved c (named_step levels.commits (named_at c linked)) linked
linked_changed linked (rolls_back c) = moved c (named_step levels.rolls_back (named_at c linked)) linked
linked_changed linked (leaves c) = moved c (dropped (named_at c linked)) linked

-- after a history
abbrev pub linked_after : History → Linked
linked_after [] = new_linked
linked_after (change ∷ past) = linked_changed (linked_after past) change

-- the connections have the depths of brackets, readers see their values, and the next text is allowed
pub record SavepointsAlike (history : History) (linked : Linked) : Type 0 where
  pub depths : (c : ℕ) → (linked.link c).depth ≡ depth c history
  pub values : (reader : ℕ) (key : ℤ) → sees (linked.link reader).own linked.rows key ≡ value reader key history
  pub begins_allowed : (c : ℕ) → depth c history < 100 → IsSome (named.after (begin_at (depth c history)) (named_at c linked))
  pub commits_allowed : (c : ℕ) → 1 ≤ depth c history → IsSome (named.after (commit_at (depth c history)) (named_at c linked))
  pub rollbacks_allowed : (c : ℕ) → 1 ≤ depth c history → IsSome (named.after (rollback_at (depth c history)) (named_at c linked))
