use Rattle.std.proofs.Common.{◌∙◌, ap, refl, sym}
use Rattle.sqlx_pool.specs.PollChain.{Served, alone}
use Rattle.sqlx_pool.specs.declared.stage.Stage.TheVariants as stage
use Rattle.sqlx_pool.proofs.PollLemmas.{asks_nothing, begins_started, begins_tested}
use Rattle.sqlx_pool.proofs.kept.Kept.begin.Goals as goal

pub returns-in-Some-clause-begins : goal.returns-in-Some-clause-begins
returns-in-Some-clause-begins g c = (c.args.now, Served c.in-Some.lent, refl, c.in-Some.ensures.saw c.args.now)

pub returns-then-depth-eq0-clause-begins : goal.returns-then-depth-eq0-clause-begins
returns-then-depth-eq0-clause-begins g c =
    begins_tested g.S.PoolSteps.stands g.S.PoolSteps.does c.args.name c.args.client c.args.ticket c.args.now c.args.options.now c.args.me.now _ _ _ c.start-start.result.1 c.in-Test.moment c.start-start.result.0 c.in-Test.idle c.lend.result
    c.in_default.ensures.later (asks_nothing _ _ _ c.tests_nothing.ensures c.if-tests_nothing.true) c.start-start.ensures c.lend.ensures.lends

pub returns-else-tests_nothing-clause-begins : goal.returns-else-tests_nothing-clause-begins
returns-else-tests_nothing-clause-begins g c =
    begins_started {H = g.row.S-Held.Denot} g.S.PoolSteps.stands g.S.PoolSteps.does c.args.name c.args.client c.args.ticket c.args.now c.args.options.now c.args.me.now _ _ c.start-start.result.1 c.start-start.result.0 (stage.Test c.in-Test.idle c.in-Test.moment) c.in_default.ensures.later (sym (ap (λ s. alone s) c.in-Test.is) ∙ c.after_start.ensures.is) c.start-start.ensures

pub returns-in_default-after_start-clause-begins : goal.returns-in_default-after_start-clause-begins
returns-in_default-after_start-clause-begins g c =
    begins_started g.S.PoolSteps.stands g.S.PoolSteps.does c.args.name c.args.client c.args.ticket c.args.now c.args.options.now c.args.me.now _ _ c.start-start.result.1 c.start-start.result.0 c.after_start.result c.in_default.ensures.later c.after_start.ensures.is c.start-start.ensures
