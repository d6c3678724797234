use Rattle.sqlx_pool.proofs.lone.LockedArcGlobalPoolSteps.detach.Goals as goal

pub returns : goal.returns
returns g c = let did = c.detach.ensures in record { answer = did.answer; marks = did.marks; becomes = did.becomes }
