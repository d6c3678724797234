use Rattle.std.proofs.Common.{◌≡◌, ◌+◌, length, sum_by, take}
use Rattle.sqlx_pool_lists.specs.Balance.{lents}
use Rattle.sqlx_family_pool.specs.FamilyState.{forgotten, loans_told}
use Rattle.sqlx_family_pool.proofs.locked.LockedFamily.read_logs.Given as goal

-- there is a copy of each log so far, and they tell of the loans of these
abbrev pub invariant-loop-pool : goal.invariant-loop-pool
invariant-loop-pool g l = (length l.logs.items ≡ l.pool) × (sum_by loans_told l.logs.items ≡ sum_by forgotten (take l.pool l.self.starts) + sum_by lents (take l.pool l.self.logs))
