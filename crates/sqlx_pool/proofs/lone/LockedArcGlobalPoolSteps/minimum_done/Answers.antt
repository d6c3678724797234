use Rattle.sqlx_pool.proofs.SeenLemmas.{back-filled}
use Rattle.sqlx_pool.proofs.lone.LockedArcGlobalPoolSteps.minimum_done.Goals as goal

pub returns-clause-does : goal.returns-clause-does
returns-clause-does g c = let did = c.minimum_done.ensures in record { answer = did.answer; marks = did.marks; becomes = did.becomes }

pub returns-clause-back : goal.returns-clause-back
returns-clause-back g c = λ some. back-filled c.args.self.now c.args.raw c.minimum_done.result c.minimum_done.ensures.answer some
