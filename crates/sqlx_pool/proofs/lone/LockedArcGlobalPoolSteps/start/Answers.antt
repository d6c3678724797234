use Rattle.sqlx_pool.proofs.lone.LockedArcGlobalPoolSteps.start.Goals as goal

pub returns : goal.returns
returns g c = let did = c.start-start.ensures in (c.moment-moment.ensures, record { answer = did.answer; marks = did.marks; becomes = did.becomes })
