use Rattle.std.proofs.Common.{◌≡◌, inl, sym}
use Rattle.sqlx_pool.specs.Upkeep.{has_room}
use Rattle.sqlx_pool.proofs.LoneLemmas.{full, places}
use Rattle.sqlx_pool.proofs.lone.LockedArcGlobalPoolSteps.minimum_place.Goals as goal

pub returns-clause-does : goal.returns-clause-does
returns-clause-does g c = let did = c.minimum_place.ensures in places g.L.Loans.max c.args.self.now c.minimum_place.new.self c.minimum_place.result did.answer did.becomes did.marks did.err

pub returns-clause-full : goal.returns-clause-full
returns-clause-full g c = λ is. inl (sym (full (λ place. place ≡ has_room c.args.self.now) c.minimum_place.result c.minimum_place.ensures.answer is))
