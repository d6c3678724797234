use Rattle.std.proofs.Common.{arith}
use Rattle.sqlx_family_pool.proofs.CutLemmas.{limit-kept, limit-is}
use Rattle.sqlx_family_pool.proofs.locked.LockedFamily.set_log_limit.Goals as goal

pub invariant_of-self : goal.invariant_of-self
invariant_of-self g c = limit-kept c.self.inside.logs.items c.self.invariant c.args.pool (grind arith) c.index_mut.result.now c.index_mut.ensures.value c.args.limit c.requires

pub returns-clause-becomes : goal.returns-clause-becomes
returns-clause-becomes g c = rw (← c.self.view_is) (λ named. limit-is c.self.inside.logs.items c.self.invariant c.args.pool (grind arith) c.index_mut.result.now c.index_mut.ensures.value c.args.limit c.requires)
