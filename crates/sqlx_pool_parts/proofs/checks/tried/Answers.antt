use Rattle.sqlx_pool_core.proofs.CheckEnds.{tries-cause, tries-rest}
use Rattle.sqlx_pool_core.proofs.CheckKeeps.{tries-more}
use Rattle.sqlx_pool_parts.proofs.CheckLemmas.{unopened-why}
use Rattle.sqlx_pool_parts.proofs.checks.tried.Goals as goal

pub returns-clause-unopened : goal.returns-clause-unopened
returns-clause-unopened g c = unopened-why g.X.Outside.does g.X.Outside.depth g.X.Outside.faults g.X.Outside.refusals g.X.Outside.IsShort g.met.X.Outside.facts _ _ _ _ _ c.try_connect.ensures

pub returns-clause-rests : goal.returns-clause-rests
returns-clause-rests g c = tries-rest g.X.Outside.does g.X.Outside.depth (λ x a b d. (g.met.X.Outside.facts x a b d).levels) _ _ _ _ _ c.try_connect.ensures

pub returns-clause-cause : goal.returns-clause-cause
returns-clause-cause g c = tries-cause g.X.Outside.does g.X.Outside.depth g.X.Outside.faults g.X.Outside.refusals g.X.Outside.IsShort g.met.X.Outside.facts _ _ _ _ _ c.try_connect.ensures

pub returns-clause-counts : goal.returns-clause-counts
returns-clause-counts g c = (
  tries-more g.X.Outside.does g.X.Outside.depth g.X.Outside.faults (λ x a b d. (g.met.X.Outside.facts x a b d).more_faults) _ _ _ _ _ c.try_connect.ensures,
  tries-more g.X.Outside.does g.X.Outside.depth g.X.Outside.refusals (λ x a b d. (g.met.X.Outside.facts x a b d).more_refusals) _ _ _ _ _ c.try_connect.ensures,
)
