use Rattle.sqlx_family.specs.Pools.{pools_of}
use Rattle.sqlx_family.proofs.RootLineLemmas.{IsLeft}
use Rattle.sqlx_family.proofs.family.Family.root_admits.Given as goal

abbrev pub invariant-loop-i : goal.invariant-loop-i
invariant-loop-i g l = IsLeft l.ticket (pools_of l.self-inside.pools.items l.self-inside.shared) l.left l.i
