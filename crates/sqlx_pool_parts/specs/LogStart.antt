-- When a log is one to be cut.
use Rattle.std.specs.Prelude.{ℕ, ◌-◌, Bool, false, ◌&&◌, Option, Some, None, nat_le}
use Rattle.sqlx_pool_parts.specs.declared.log_start.LogStart.{LogStart}

-- so many marks behind a start of so many are at least as many as the limit, and as the start has
abbrev pub is_past : Option ℕ → ℕ → ℕ → Bool
is_past None start behind = false
is_past (Some limit) start behind = nat_le limit behind && nat_le start behind

-- a log of so many marks in all, which begins so, is one to be cut
abbrev pub is_long : LogStart → ℕ → Bool
is_long start marks = is_past start.limit start.len (marks - start.len)
