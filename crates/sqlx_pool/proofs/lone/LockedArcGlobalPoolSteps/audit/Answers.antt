use Rattle.sqlx_pool.proofs.lone.LockedArcGlobalPoolSteps.audit.Goals as goal

pub returns-clause-does : goal.returns-clause-does
returns-clause-does g c = record { marks = c.audited.ensures.marks; core = c.audited.ensures.core }
