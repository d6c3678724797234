use Rattle.sqlx_pool_parts.proofs.ReturnsLemmas.{returns-more}
use Rattle.sqlx_pool_parts.proofs.checks.returned.Goals as goal

pub returns-clause-counts : goal.returns-clause-counts
returns-clause-counts g c = (
  returns-more g.X.Outside.does g.X.Outside.depth g.X.Outside.faults (λ x a b d. (g.met.X.Outside.facts x a b d).more_faults) _ _ _ _ _ _ _ c.returns.ensures,
  returns-more g.X.Outside.does g.X.Outside.depth g.X.Outside.refusals (λ x a b d. (g.met.X.Outside.facts x a b d).more_refusals) _ _ _ _ _ _ _ c.returns.ensures,
)
