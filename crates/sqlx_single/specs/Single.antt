-- A pool that one connection is enough for: not opened yet, resting, or lent.
use Rattle.std.specs.Prelude.{◌≡◌, ℕ, ◌≤◌, false, List, [], ◌∷◌, None}
use Rattle.sqlx_pool_lists.specs.declared.steps.Idle.{Idle}
use Rattle.sqlx_pool_lists.specs.declared.ticket.OwnedConn.{OwnedConn}
use Rattle.sqlx_pool_lists.specs.Core.{Core, core_of}

-- The pool may have a connection, keeps one, and none grows too old; no ticket waits, nothing is leaked, and it is open. These rest, these are lent, and this number comes next.
pub record IsSingle {C : Type 0} (core : Core C) (idle : List (Idle C)) (held : List OwnedConn) (next : ℕ) : Type 0 where
  pub some : 1 ≤ core.options.max_connections
  pub least : core.options.min_connections ≡ 1
  pub lifetime : core.options.max_lifetime ≡ None
  pub shape : core ≡ core_of core.options [] held idle 0 false core.closed 0 core.options.max_connections core.next_ticket next core.last

-- no connection was opened yet
abbrev pub IsEmpty : {C : Type 0} → Core C → Type 0
IsEmpty core = IsSingle core [] [] 1

-- This connection rests.
pub record Rests {C : Type 0} (raw : C) (core : Core C) : Type 0 where
  pub id : ℕ
  pub created : ℕ
  pub since : ℕ
  pub single : IsSingle core ((record { lent = record { id = id; created = record { 0 = created }; raw = raw }; since = record { 0 = since } }) ∷ []) [] 2

-- The connection of this number is lent to client 0.
pub record Lends {C : Type 0} (id : ℕ) (core : Core C) : Type 0 where
  pub created : ℕ
  pub single : IsSingle core [] ((record { conn = id; client = 0; created = record { 0 = created } }) ∷ []) 2
