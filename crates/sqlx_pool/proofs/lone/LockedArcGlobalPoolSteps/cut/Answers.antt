use Rattle.sqlx_pool.proofs.lone.LockedArcGlobalPoolSteps.cut.Goals as goal

pub returns : goal.returns
returns g c = record { marks = c.cut.ensures.marks; core = c.cut.ensures.core }
