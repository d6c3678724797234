use Rattle.std.proofs.Common.{subst, sym}
use Rattle.sqlx_pool.proofs.LoneLemmas.{lends_past, on_err}
use Rattle.sqlx_pool.specs.Refusals.{AreLoansUsed}
use Rattle.sqlx_pool.proofs.lone.LockedArcGlobalPoolSteps.try_acquire.Goals as goal

pub returns-clause-does : goal.returns-clause-does
returns-clause-does g c = let did = c.try_acquire.ensures in lends_past g.L.Loans.max c.args.self.now c.try_acquire.new.self _ c.args.now c.args.client c.try_acquire.result did.answer did.first did.marks did.becomes did.err

pub returns-clause-used : goal.returns-clause-used
returns-clause-used g c = λ e. subst AreLoansUsed (sym (on_err c.try_acquire.result _ c.try_acquire.ensures.err e).0) (c.try_acquire.ensures.exhausted.0 e).1
