-- What a root asks of the options of a child.
use Rattle.std.specs.Prelude.{◌≤◌, ℕ}
use Rattle.sqlx_pool_lists.specs.declared.options.PoolOptions.{PoolOptions}

-- options of a child of a root of this maximum: it has at least one connection and no more than the root, and tests 1 to 16 idle ones in a poll
abbrev pub IsChildOf : PoolOptions → ℕ → Type 0
IsChildOf options max = (1 ≤ options.max_connections) × (options.max_connections ≤ max) × (1 ≤ options.idle_tries) × (options.idle_tries ≤ 16)
