use Rattle.std.proofs.Common.{refl}
use Rattle.sqlx_pool_core.specs.declared.idle_check.Opening.TheVariants as opening
use Rattle.sqlx_pool.proofs.EndLemmas.{connect_first, ended_by_rules, ended_for_good}
use Rattle.sqlx_pool.proofs.PollLemmas.{opens_one}
use Rattle.sqlx_pool.proofs.pool.PoolOf.open_wanted.Goals as goal

pub returns-in-Opened-clause-loans : goal.returns-in-Opened-clause-loans
returns-in-Opened-clause-loans g c = connect_first c.args.stage _ _ _ c.in-Connect.is c.tell.ensures.tally.loans

pub returns-in-Opened-clause-causes : goal.returns-in-Opened-clause-causes
returns-in-Opened-clause-causes g c = λ _. ended_by_rules _ _ c.tell.result c.tell.ensures.causes

pub returns-in-Rejected-clause-loans : goal.returns-in-Rejected-clause-loans
returns-in-Rejected-clause-loans g c = connect_first c.args.stage _ _ _ c.in-Connect.is c.tell-in-Rejected.ensures.tally.loans

pub returns-in-Rejected-clause-causes : goal.returns-in-Rejected-clause-causes
returns-in-Rejected-clause-causes g c = λ _. ended_by_rules _ _ c.tell-in-Rejected.result c.tell-in-Rejected.ensures.causes

pub returns-in-Transient-clause-loans : goal.returns-in-Transient-clause-loans
returns-in-Transient-clause-loans g c = connect_first c.args.stage _ _ _ c.in-Connect.is c.tell-in-Transient.ensures.tally.loans

pub returns-in-Transient-clause-causes : goal.returns-in-Transient-clause-causes
returns-in-Transient-clause-causes g c = λ _. ended_by_rules _ _ c.tell-in-Transient.result c.tell-in-Transient.ensures.causes

pub returns-in-Failed-clause-loans : goal.returns-in-Failed-clause-loans
returns-in-Failed-clause-loans g c = connect_first c.args.stage _ _ _ c.in-Connect.is c.tell_fatal.ensures.tally.loans

pub returns-in-Failed-clause-causes : goal.returns-in-Failed-clause-causes
returns-in-Failed-clause-causes g c = λ _. ended_for_good _ _ c.in-Failed.error c.tell_fatal.result c.in-Failed.ensures.cause c.tell_fatal.ensures.causes

pub returns-in-Opened-clause-chain : goal.returns-in-Opened-clause-chain
returns-in-Opened-clause-chain g c =
    opens_one _ _ _ g.S.PoolSteps.stands g.S.PoolSteps.does c.args.self.now.shared.value.name c.args.client c.args.ticket g.S.PoolSteps.tells c.args.now c.args.self.now.shared.value.options (opening.Opened c.in-Opened.raw) _ c.args.stage c.tell.result c.args.me.now _ _ _ _ c.in-Connect.is refl c.in-Opened.ensures.tries (c.tell.ensures.tells (opening.Opened c.in-Opened.raw))

pub returns-in-Rejected-clause-chain : goal.returns-in-Rejected-clause-chain
returns-in-Rejected-clause-chain g c =
    opens_one _ _ _ g.S.PoolSteps.stands g.S.PoolSteps.does c.args.self.now.shared.value.name c.args.client c.args.ticket g.S.PoolSteps.tells c.args.now c.args.self.now.shared.value.options (opening.Rejected) _ c.args.stage c.tell-in-Rejected.result c.args.me.now _ _ _ _ c.in-Connect.is refl c.in-Rejected.ensures.tries (c.tell-in-Rejected.ensures.tells opening.Rejected)

pub returns-in-Transient-clause-chain : goal.returns-in-Transient-clause-chain
returns-in-Transient-clause-chain g c =
    opens_one _ _ _ g.S.PoolSteps.stands g.S.PoolSteps.does c.args.self.now.shared.value.name c.args.client c.args.ticket g.S.PoolSteps.tells c.args.now c.args.self.now.shared.value.options (opening.Transient) _ c.args.stage c.tell-in-Transient.result c.args.me.now _ _ _ _ c.in-Connect.is refl c.in-Transient.ensures.tries (c.tell-in-Transient.ensures.tells opening.Transient)

pub returns-in-Failed-clause-chain : goal.returns-in-Failed-clause-chain
returns-in-Failed-clause-chain g c =
    opens_one _ _ _ g.S.PoolSteps.stands g.S.PoolSteps.does c.args.self.now.shared.value.name c.args.client c.args.ticket g.S.PoolSteps.tells c.args.now c.args.self.now.shared.value.options (opening.Failed c.in-Failed.error) _ c.args.stage c.tell_fatal.result c.args.me.now _ _ _ _ c.in-Connect.is refl c.in-Failed.ensures.tries c.tell_fatal.ensures.tells
