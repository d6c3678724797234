use Rattle.std.proofs.Common.{◌≡◌, ◌<◌, length, refl, sym, ap, ◌∙◌, [], Some, false, rules}
use Rattle.sqlx_pool_lists.specs.declared.steps.AfterTest.TheVariants as tested
use Rattle.sqlx_pool_lists.specs.Core.{Core}
use Rattle.sqlx_pool_lists.specs.PollSteps.{phase_for, tested_at}
use Rattle.sqlx_pool_core.proofs.Fair.{makes-nothing}
use Rattle.sqlx_pool_core.proofs.CheckEnds.{tests-judged}
use Rattle.sqlx_pool_core.proofs.Polling.{untested-connects, next-found, fewer-idle, tested-goes}
use Rattle.sqlx_pool_core.proofs.LonePools.{keeps-then}
use Rattle.sqlx_pool_core.proofs.pool_core.PoolCore.+test_taken.Goals as goal

pub test_ended-requires-clause-tested : goal.test_ended-requires-clause-tested
test_ended-requires-clause-tested g t c =
    ap (λ n. tested_at n (phase_for c.args.client c.args.ticket c.args.self.now.pool.tickets)) (tests-judged g.X.Outside.does g.X.Outside.depth _ _ c.args.idle c.test-verdict.result _ _ c.test-verdict.ensures)
    ∙ c.requires.tested

pub connect-requires-clause-connecting : goal.connect-requires-clause-connecting
connect-requires-clause-connecting g t c =
    untested-connects c.args.self.now.pool c.test_ended.new.self.pool c.args.client c.args.ticket c.args.idle.lent.id c.args.idle.lent.created c.requires.tested c.in-Connect.ensures.becomes

pub test_taken-requires : goal.test_taken-requires
test_taken-requires g t c =
    let core = c.args.self.now.pool in
    let new = c.test_ended.new.self.pool in
    let is = c.in-Test.ensures.becomes in
    let smaller : length new.idle < length core.idle =
    fewer-idle core c.args.idle.lent.created _ c.test-verdict.result c.in-Test.next c.in-Test.ensures.answer new c.args.client c.args.ticket is in
    let found : tested_at c.in-Test.next.lent.id (phase_for c.args.client c.args.ticket new.tickets) ≡ Some c.in-Test.next.lent.created =
    next-found core new c.args.client c.args.ticket c.args.idle.lent.id c.args.idle.lent.created c.in-Test.next c.requires.tested is in
    let open_is : new.shut ≡ false = ap (λ (n : Core _). n.shut) is ∙ c.requires.open in
    let at : c.args.moment.0 ≡ new.last = c.requires.at ∙ ap (λ (n : Core _). n.last) (sym is) in
    search rules

pub returns-in-Ready-clause-goes : goal.returns-in-Ready-clause-goes
returns-in-Ready-clause-goes g t c =
    tested-goes g.X.Outside.does g.X.Outside.depth c.args.options.now c.args.client c.args.ticket c.args.moment.0 c.args.idle c.args.self.now.pool c.test_ended.new.self.pool c.test_ended.new.self.pool c.args.out.now c.test-verdict.new.out c.test-verdict.new.out _ c.test-verdict.result (tested.Ready c.in-Ready.lent) _
    c.options.ensures c.test-verdict.ensures c.in-Ready.ensures.answer c.in-Ready.ensures.becomes (ap (λ (n : Core _). n.options) c.in-Ready.ensures.becomes) c.in-Ready.ensures.makes
    (record { verdicts = []; made = []; goes = (refl, refl, refl, refl); makes = λ marks s. makes-nothing c.test_ended.new.self.pool.options.max_connections marks c.test_ended.new.self.pool s })

pub returns-in-Test-clause-goes : goal.returns-in-Test-clause-goes
returns-in-Test-clause-goes g t c =
    tested-goes g.X.Outside.does g.X.Outside.depth c.args.options.now c.args.client c.args.ticket c.args.moment.0 c.args.idle c.args.self.now.pool c.test_ended.new.self.pool c.test_taken.new.self.pool c.args.out.now c.test-verdict.new.out c.test_taken.new.out _ c.test-verdict.result (tested.Test c.in-Test.next) _
    c.options.ensures c.test-verdict.ensures c.in-Test.ensures.answer c.in-Test.ensures.becomes (ap (λ (n : Core _). n.options) c.in-Test.ensures.becomes) c.in-Test.ensures.makes c.test_taken.ensures.goes

pub returns-in-Connect-clause-goes : goal.returns-in-Connect-clause-goes
returns-in-Connect-clause-goes g t c =
    tested-goes g.X.Outside.does g.X.Outside.depth c.args.options.now c.args.client c.args.ticket c.args.moment.0 c.args.idle c.args.self.now.pool c.test_ended.new.self.pool c.connect.new.self.pool c.args.out.now c.test-verdict.new.out c.connect.new.out _ c.test-verdict.result tested.Connect _
    c.options.ensures c.test-verdict.ensures c.in-Connect.ensures.answer c.in-Connect.ensures.becomes (ap (λ (n : Core _). n.options) c.in-Connect.ensures.becomes) c.in-Connect.ensures.makes c.connect.ensures.goes

pub returns-in-Test-clause-edge : goal.returns-in-Test-clause-edge
returns-in-Test-clause-edge g t c = keeps-then c.args.self.now c.test_ended.new.self c.test_taken.new.self c.in-Test.ensures.still c.in-Test.ensures.edge c.test_taken.ensures.edge

pub returns-in-Connect-clause-edge : goal.returns-in-Connect-clause-edge
returns-in-Connect-clause-edge g t c = keeps-then c.args.self.now c.test_ended.new.self c.connect.new.self c.in-Connect.ensures.still c.in-Connect.ensures.edge c.connect.ensures.edge
