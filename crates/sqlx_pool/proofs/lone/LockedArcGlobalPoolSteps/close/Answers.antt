use Rattle.sqlx_pool.proofs.lone.LockedArcGlobalPoolSteps.close.Goals as goal

pub returns : goal.returns
returns g c = let did = c.close.ensures in record { answer = did.answer; marks = did.marks; becomes = did.becomes; closed = did.closed }
