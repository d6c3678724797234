use Rattle.sqlx_pool.proofs.lone.LockedArcGlobalPoolSteps.cut_if_long.Goals as goal

pub returns-clause-becomes : goal.returns-clause-becomes
returns-clause-becomes g c = record { marks = c.cut_if_long.ensures.marks; core = c.cut_if_long.ensures.core }
