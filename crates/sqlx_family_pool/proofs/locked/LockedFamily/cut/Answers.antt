use Rattle.std.proofs.Common.{arith}
use Rattle.sqlx_family_pool.proofs.CutLemmas.{few-loans, cut-kept, cut-is}
use Rattle.sqlx_family_pool.proofs.locked.LockedFamily.cut.Goals as goal

pub cut-requires-clause-few : goal.cut-requires-clause-few
cut-requires-clause-few g c = few-loans c.self.inside.logs.items c.self.invariant c.args.pool (grind arith) c.bounds.ensures c.index_mut-log.result.now c.index_mut-log.ensures.value c.index_mut-start.result.now c.index_mut-start.ensures.value

pub invariant_of-self : goal.invariant_of-self
invariant_of-self g c =
    cut-kept c.self.inside.logs.items c.self.invariant c.args.pool (grind arith) c.index_mut-log.result.now c.cut.new.log c.index_mut-log.ensures.value c.cut.ensures.marks c.index_mut-start.result.now c.cut.new.start c.index_mut-start.ensures.value c.cut.ensures.start
    c.cut.ensures.stands c.cut.ensures.loans c.cut.ensures.room c.requires

pub returns-clause-becomes : goal.returns-clause-becomes
returns-clause-becomes g c =
    rw (← c.self.view_is)
    (λ named. cut-is c.self.inside.logs.items c.self.invariant c.args.pool (grind arith) c.index_mut-log.result.now c.cut.new.log c.index_mut-log.ensures.value c.cut.ensures.marks c.index_mut-start.result.now c.cut.new.start c.index_mut-start.ensures.value c.cut.ensures.start
    c.cut.ensures.stands c.cut.ensures.loans c.cut.ensures.room c.requires)
