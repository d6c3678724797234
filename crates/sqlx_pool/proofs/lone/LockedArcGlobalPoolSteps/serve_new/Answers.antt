use Rattle.sqlx_pool.proofs.lone.LockedArcGlobalPoolSteps.serve_new.Goals as goal

pub returns-clause-does : goal.returns-clause-does
returns-clause-does g c = let did = c.serve_new.ensures in record { first = did.first; marks = did.marks; becomes = did.becomes }
