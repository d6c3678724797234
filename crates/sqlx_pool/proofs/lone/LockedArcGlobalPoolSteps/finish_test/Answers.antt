use Rattle.sqlx_pool.proofs.lone.LockedArcGlobalPoolSteps.finish_test.Goals as goal

pub returns-clause-does : goal.returns-clause-does
returns-clause-does g c = let did = c.finish_test.ensures in record { answers = did.answer; marks = did.marks; becomes = did.becomes }
