-- A pool whose connections are all opened at first, and then lent and given back.
use Rattle.std.specs.Prelude.{◌≡◌, ℕ, ◌+◌, ◌≤◌, false, List, [], ◌∷◌, ◌++◌, length, Option, Some, None}
use Rattle.sqlx_pool_lists.specs.declared.steps.Idle.{Idle}
use Rattle.sqlx_pool_lists.specs.declared.steps.Lent.{Lent}
use Rattle.sqlx_pool_lists.specs.declared.ticket.OwnedConn.{OwnedConn}
use Rattle.sqlx_pool_lists.specs.Core.{Core, core_of}

-- The pool may have so many connections, which never grow too old; no ticket waits, nothing is leaked, and it is open. These are lent, these rest, and no other was opened.
pub record IsPool {C : Type 0} (max : ℕ) (core : Core C) (held : List OwnedConn) (idle : List (Idle C)) : Type 0 where
  pub most : core.options.max_connections ≡ max
  pub least : core.options.min_connections ≡ max
  pub lifetime : core.options.max_lifetime ≡ None
  pub within : length held + length idle ≤ max
  pub numbered : core.next_conn ≡ length held + length idle + 1
  pub shape : core ≡ core_of core.options [] held idle 0 false core.closed 0 max core.next_ticket core.next_conn core.last

-- A connection more rests.
pub record Opens {C : Type 0} (max : ℕ) (core : Core C) (idle : List (Idle C)) (raw : C) : Type 0 where
  pub entry : Idle C
  pub is : entry.lent.raw ≡ raw
  pub pool : IsPool max core [] (idle ++ entry ∷ [])

-- the loan of a connection to a client
abbrev pub loan_to : {C : Type 0} → ℕ → Lent C → OwnedConn
loan_to k lent = record { conn = lent.id; client = k; created = lent.created }

-- The first idle connection was lent.
pub record LendsFirst {C : Type 0} (max k : ℕ) (core : Core C) (held : List OwnedConn) (idle : List (Idle C)) (lent : Lent C) : Type 0 where
  pub entry : Idle C
  pub rest : List (Idle C)
  pub first : idle ≡ entry ∷ rest
  pub is : lent ≡ entry.lent
  pub pool : IsPool max core (held ++ loan_to k lent ∷ []) rest

-- what a loan comes to: the first idle connection, or none where none is idle
abbrev pub Lends : {C : Type 0} → ℕ → ℕ → Core C → List OwnedConn → List (Idle C) → Option (Lent C) → Type 0
Lends max k core held idle (Some lent) = LendsFirst max k core held idle lent
Lends max k core held idle None = (idle ≡ []) × IsPool max core held idle

-- A connection came back, and rests as the last.
pub record TakesBack {C : Type 0} (max : ℕ) (core : Core C) (held : List OwnedConn) (idle : List (Idle C)) (lent : Lent C) : Type 0 where
  pub entry : Idle C
  pub is : entry.lent.raw ≡ lent.raw
  pub pool : IsPool max core held (idle ++ entry ∷ [])
