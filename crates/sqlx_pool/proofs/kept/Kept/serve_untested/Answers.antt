use Rattle.sqlx_pool_parts.specs.Answers.{lent_alone}
use Rattle.sqlx_pool_history.proofs.Showing.{prefix_same}
use Rattle.sqlx_pool.proofs.PollLemmas.{asks_nothing, served}
use Rattle.sqlx_pool.proofs.kept.Kept.serve_untested.Goals as goal

pub returns-then-tests_nothing-clause-saw : goal.returns-then-tests_nothing-clause-saw
returns-then-tests_nothing-clause-saw g c m =
    served g.S.PoolSteps.stands g.S.PoolSteps.does c.args.name c.args.client c.args.ticket c.args.now c.args.options.now c.args.me.now c.serve_polled.new.me m (lent_alone c.serve_polled.result)
    (asks_nothing _ _ _ c.tests_nothing.ensures c.if-tests_nothing.true) c.serve_polled.ensures.saw

pub returns-else-tests_nothing-clause-later : goal.returns-else-tests_nothing-clause-later
returns-else-tests_nothing-clause-later g c = prefix_same c.args.me.now
