use Rattle.std.proofs.Common.{◌∙◌, sym}
use Rattle.sqlx_pool.proofs.SeenLemmas.{some-alone}
use Rattle.sqlx_pool.proofs.lone.LockedArcGlobalPoolSteps.serve_polled.Goals as goal

pub returns-clause-does : goal.returns-clause-does
returns-clause-does g c = let did = c.serve_polled.ensures in record { serves = λ some. did.serves (sym (some-alone c.serve_polled.result) ∙ some); first = did.first; marks = did.marks; becomes = did.becomes }
