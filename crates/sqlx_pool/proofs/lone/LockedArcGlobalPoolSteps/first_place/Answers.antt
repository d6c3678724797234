use Rattle.sqlx_pool.proofs.LoneLemmas.{places_first}
use Rattle.sqlx_pool.proofs.lone.LockedArcGlobalPoolSteps.first_place.Goals as goal

pub returns : goal.returns
returns g c = let did = c.first_place.ensures in places_first g.L.Loans.max c.args.self.now c.first_place.new.self c.first_place.result did.answer did.becomes did.marks did.err
