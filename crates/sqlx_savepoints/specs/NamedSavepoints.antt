-- Named savepoints: what a database does with the texts of levels on one connection.
use Rattle.std.specs.Prelude.{ℕ, zero, suc, ℤ, ◌==◌, nat_lt, if◌then◌else◌, Option, Some, None, List, [], ◌∷◌, option_map, unwrap_or}
use Rattle.std.specs.FinMap.{empty, insert}
use Rattle.sqlx_savepoints.specs.Rows.{Rows, Writes, written, laid}
use Rattle.sqlx_savepoints.specs.declared.level_text.LevelText.{LevelText}
use Rattle.sqlx_savepoints.specs.declared.level_text.LevelText.TheVariants.{Begin, BeginImmediate, Commit, Rollback, Savepoint, Release, RollbackTo}

-- a savepoint on the list: its name, which is a number, and the own writes as they stood at it
pub record Entry : Type 0 where
  pub name : ℕ
  pub own : Writes

-- the committed rows, a connection's own writes, its savepoints with the newest first, its depth
pub record Named : Type 0 where
  pub rows : Rows
  pub own : Writes
  pub entries : List Entry
  pub depth : ℕ

-- a connection without a level
abbrev pub named_over : Rows → Named
named_over rows = record { rows = rows; own = empty; entries = []; depth = 0 }

-- the newest savepoint of this name, as the writes that it kept and all that is older
abbrev pub newest : ℕ → List Entry → Option (Writes × List Entry)
newest name [] = None
newest name (entry ∷ older) = if name == entry.name then Some (entry.own, older) else newest name older

-- what may stand outside a level only
abbrev pub outside : ℕ → Option Named → Option Named
outside zero state = state
outside (suc depth) state = None

-- what may stand inside a level only
abbrev pub inside : ℕ → Option Named → Option Named
inside zero state = None
inside (suc depth) state = state

-- the depth lowered by one, and never below 1
abbrev pub lowered : ℕ → ℕ
lowered (suc (suc depth)) = suc depth
lowered _ = 1

-- a level begun outside any other: no own writes, no savepoints
abbrev pub begun : Named → Named
begun state = record state { own = empty; entries = []; depth = 1 }

-- all own writes laid over the rows, and every level ended
abbrev pub published : Named → Named
published state = record { rows = laid state.own state.rows; own = empty; entries = []; depth = 0 }

-- all own writes dropped, and every level ended
abbrev pub dropped : Named → Named
dropped state = record state { own = empty; entries = []; depth = 0 }

-- a savepoint of this name on top of the list, which keeps the own writes as they stand
abbrev pub pushed : ℕ → Named → Named
pushed name state = record state { entries = record { name = name; own = state.own } ∷ state.entries; depth = suc state.depth }

-- the newest savepoint of the name and all newer ones taken away
abbrev pub released : Named → Writes × List Entry → Named
released state (own, older) = record state { entries = older; depth = lowered state.depth }

-- the own writes as they stood at the newest savepoint of the name; it stays, all newer ones go
abbrev pub restored : ℕ → Named → Writes × List Entry → Named
restored name state (own, older) = record state { own = own; entries = record { name = name; own = own } ∷ older; depth = lowered state.depth }

-- the state after a text; none where the state doesn't allow it
abbrev pub after : LevelText → Named → Option Named
after Begin state = outside state.depth (Some (begun state))
after BeginImmediate state = outside state.depth (Some (begun state))
after Commit state = inside state.depth (Some (published state))
after Rollback state = inside state.depth (Some (dropped state))
after (Savepoint name) state = if nat_lt state.depth 100 then inside state.depth (Some (pushed name state)) else None
after (Release name) state = inside state.depth (option_map (released state) (newest name state.entries))
after (RollbackTo name) state = inside state.depth (option_map (restored name state) (newest name state.entries))

-- the state after a text, which changes nothing where it is refused
abbrev pub ran : LevelText → Named → Named
ran text state = unwrap_or (after text state) state

-- a write by this depth: outside a level it is committed at once, else it joins the own writes
abbrev pub write_at : ℕ → ℤ → Option ℤ → Named → Named
write_at zero key value state = record state { rows = written key value state.rows }
write_at (suc depth) key value state = record state { own = insert state.own key value }

-- the state after a write of the key: its value, or none
abbrev pub wrote : ℤ → Option ℤ → Named → Named
wrote key value state = write_at state.depth key value state
