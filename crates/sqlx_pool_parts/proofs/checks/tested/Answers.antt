use Rattle.sqlx_pool_core.proofs.CheckEnds.{tests-judged}
use Rattle.sqlx_pool_core.proofs.CheckKeeps.{tests-more}
use Rattle.sqlx_pool_parts.proofs.checks.tested.Goals as goal

pub returns-clause-judged : goal.returns-clause-judged
returns-clause-judged g c = tests-judged g.X.Outside.does g.X.Outside.depth _ _ _ _ _ _ c.test.ensures

pub returns-clause-counts : goal.returns-clause-counts
returns-clause-counts g c = (
  tests-more g.X.Outside.does g.X.Outside.depth g.X.Outside.faults (λ x a b d. (g.met.X.Outside.facts x a b d).more_faults) _ _ _ _ _ _ c.test.ensures,
  tests-more g.X.Outside.does g.X.Outside.depth g.X.Outside.refusals (λ x a b d. (g.met.X.Outside.facts x a b d).more_refusals) _ _ _ _ _ _ c.test.ensures,
)
