use Rattle.sqlx_pool.proofs.lone.LockedArcGlobalPoolSteps.finish_connect.Goals as goal

pub returns-clause-does : goal.returns-clause-does
returns-clause-does g c = let did = c.finish_connect.ensures in record { answers = did.answer; marks = did.marks; becomes = did.becomes }
