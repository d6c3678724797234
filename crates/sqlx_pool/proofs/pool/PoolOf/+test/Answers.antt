use Rattle.std.proofs.Common.{◌≡◌, false, refl, rules}
use Rattle.sqlx_pool.specs.Stage.{wants_test}
use Rattle.sqlx_pool.proofs.PollLemmas.{one_more, tests_none, tests_next, tests_over}
use Rattle.sqlx_pool.proofs.pool.PoolOf.+test.Goals as goal

pub returns-then-left-eq0-clause-chain : goal.returns-then-left-eq0-clause-chain
returns-then-left-eq0-clause-chain g t c =
    tests_over _ _ _ g.S.PoolSteps.stands g.S.PoolSteps.does c.args.self.now.shared.value.name c.args.client c.args.ticket c.args.self.now.shared.value.options c.args.left c.in-Test.idle c.in-Test.moment c.args.stage c.args.me.now c.args.out.now c.if-left-eq0.true c.in-Test.is

pub returns-else-left-eq0-clause-chain : goal.returns-else-left-eq0-clause-chain
returns-else-left-eq0-clause-chain g t c =
    tests_next _ _ _ g.S.PoolSteps.stands g.S.PoolSteps.does c.args.self.now.shared.value.name c.args.client c.args.ticket c.args.self.now.shared.value.options c.args.left _ c.in-Test.idle c.in-Test.moment c.args.stage c.test_one-next.result c.test.result c.args.me.now _ _ c.args.out.now _ _ (one_more c.args.left c.if-left-eq0.false) c.in-Test.is c.test_one-next.ensures.tests c.test.ensures.chain

pub returns-in_default : goal.returns-in_default
returns-in_default g t c =
    let none : wants_test c.args.stage ≡ false = search rules in
    record {
      chain = tests_none _ _ _ g.S.PoolSteps.stands g.S.PoolSteps.does c.args.self.now.shared.value.name c.args.client c.args.ticket c.args.self.now.shared.value.options c.args.left c.args.stage c.args.me.now c.args.out.now none;
      parts = refl;
      loans = refl;
      flat = λ h. h;
      causes = λ h. h;
      tested = none;
      counts = search rules;
    }
