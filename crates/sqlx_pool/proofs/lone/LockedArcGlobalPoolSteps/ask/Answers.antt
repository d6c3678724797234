use Rattle.sqlx_pool.proofs.LoneLemmas.{asks, told_still}
use Rattle.sqlx_pool.specs.Refusals.{AreTicketsUsed, IsClosed}
use Rattle.sqlx_pool.proofs.lone.LockedArcGlobalPoolSteps.ask.Goals as goal

pub returns-clause-does : goal.returns-clause-does
returns-clause-does g c = let did = c.ask.ensures in asks g.L.Loans.max c.args.self.now c.ask.new.self c.args.now c.args.client c.ask.result did.numbered did.marks did.becomes did.err

pub returns-clause-closed : goal.returns-clause-closed
returns-clause-closed g c = λ e. told_still c.ask.result _ IsClosed c.args.self.now c.ask.new.self c.ask.ensures.err e (c.ask.ensures.closed.0 e)

pub returns-clause-used : goal.returns-clause-used
returns-clause-used g c = λ e. told_still c.ask.result _ AreTicketsUsed c.args.self.now c.ask.new.self c.ask.ensures.err e (c.ask.ensures.exhausted.0 e).1
