use Rattle.sqlx_pool_core.proofs.Answered.{test-answered}
use Rattle.sqlx_pool_core.proofs.BalanceLemmas.{test-moves}
use Rattle.sqlx_pool_core.proofs.Drawn.{test-draws, test-stays}
use Rattle.sqlx_pool_core.proofs.member.Member.finish_test.Goals as goal

pub returns-clause-makes : goal.returns-clause-makes
returns-clause-makes g c = λ marks s.
    test-answered c.args.self.now c.test_done.new.self marks c.test_done.ensures.sound s c.args.client c.args.ticket c.args.verdict c.test_done.result c.test_done.ensures.answer c.test_done.ensures.becomes

pub returns-clause-balance : goal.returns-clause-balance
returns-clause-balance g c =
    test-moves c.args.self.now c.test_done.new.self c.test_done.ensures.sound c.args.client c.args.ticket c.args.verdict c.test_done.result c.test_done.ensures.answer c.test_done.ensures.becomes

pub returns-clause-draws : goal.returns-clause-draws
returns-clause-draws g c = test-draws c.args.self.now c.test_done.new.self c.test_done.ensures.sound c.args.client c.args.ticket c.args.verdict c.test_done.result c.test_done.ensures.answer c.test_done.ensures.becomes

pub returns-clause-stays : goal.returns-clause-stays
returns-clause-stays g c = test-stays c.args.self.now c.test_done.new.self c.args.client c.args.ticket c.test_done.result c.test_done.ensures.becomes
