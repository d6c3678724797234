use Rattle.sqlx_pool.proofs.lone.LockedArcGlobalPoolSteps.give.Goals as goal

pub returns-clause-does : goal.returns-clause-does
returns-clause-does g c = let did = c.give.ensures in record { answer = did.answer; marks = did.marks; becomes = did.becomes }
