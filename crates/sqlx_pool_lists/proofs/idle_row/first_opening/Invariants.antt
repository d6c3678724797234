use Rattle.std.specs.List.{AllByRecursion}
use Rattle.std.proofs.Common.{◌≤◌}
use Rattle.sqlx_pool_lists.proofs.idle_row.first_opening.Given as goal

-- none of those so far was opened before it
abbrev pub invariant-loop-idle : goal.invariant-loop-idle
invariant-loop-idle g l = AllByRecursion (λ b. l.first ≤ b.now.lent.created.0) l.yielded
