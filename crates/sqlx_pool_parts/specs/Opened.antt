-- By what a pool is made, and why its first connections may be refused.
use Rattle.std.specs.Prelude.{◌≡◌, ◌≤◌, ◌⊎◌, ℕ, ⊤}
use Rattle.sqlx_text.specs.declared.error.Error.{Error}
use Rattle.sqlx_text.specs.declared.error.Error.TheVariants as error
use Rattle.sqlx_pool_lists.specs.declared.options.PoolOptions.{PoolOptions}
use Rattle.sqlx_pool_core.specs.Outside.{HasRisen}
use Rattle.sqlx_pool_core.specs.declared.idle_check.Opening.{Opening}
use Rattle.sqlx_pool_core.specs.declared.idle_check.Opening.TheVariants as opening

-- options of a pool of this maximum: it has at least one connection, and tests 1 to 16 idle ones in a poll
abbrev pub IsOpenable : PoolOptions → ℕ → Type 0
IsOpenable options max = (1 ≤ options.max_connections) × (1 ≤ options.idle_tries) × (options.idle_tries ≤ 16) × (options.max_connections ≡ max)

-- an outside tells of each connection as many open levels as the connection itself
abbrev pub TellsLevels : {C X : Type 0} → (X → C → ℕ) → (C → ℕ) → Type 0
TellsLevels {C = C} {X = X} depth levels = (out : X) → (conn : C) → depth out conn ≡ levels conn

-- why the first connections are refused: want of memory; a level that their hook left open, which was counted where the outside tells of levels as the connections do; or a refusal of the connect or of the hook, which was counted
abbrev pub IsOpenRefusal : {C X : Type 0} → (X → C → ℕ) → (C → ℕ) → ℕ → ℕ → ℕ → ℕ → Error → Type 0
IsOpenRefusal depth levels faults refusals faults_now refusals_now e = (e ≡ error.OutOfMemory) ⊎ ((e ≡ error.BeginFailed) × (TellsLevels depth levels → HasRisen refusals refusals_now)) ⊎ HasRisen faults faults_now ⊎ HasRisen refusals refusals_now

-- a refusal of a connect, or of a hook, was counted
abbrev pub IsCounted : {X : Type 0} (faults refusals : X → ℕ) → X → X → Type 0
IsCounted faults refusals old new = HasRisen (faults old) (faults new) ⊎ HasRisen (refusals old) (refusals new)

-- why a try opened no connection: want of memory, or a refusal that was counted
abbrev pub IfUnopened : {C : Type 0} → Opening C → Type 0 → Type 0
IfUnopened (opening.Opened raw) counted = ⊤
IfUnopened (opening.Failed e) counted = (e ≡ error.OutOfMemory) ⊎ counted
IfUnopened other counted = counted
