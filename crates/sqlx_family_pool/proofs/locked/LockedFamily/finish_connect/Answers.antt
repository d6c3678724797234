use Rattle.std.proofs.Common.{ap, ◌∙◌, inl, arith}
use Rattle.sqlx_family.specs.Pools.{pool_in}
use Rattle.sqlx_family_pool.proofs.StepLemmas.{room-there, written-within, logs-written, few-held}
use Rattle.sqlx_pool_core.specs.Logs.{moment_of}
use Rattle.sqlx_pool_lists.specs.PollSteps.{connect_marks}
use Rattle.sqlx_pool_lists.specs.Core.{ticket_of}
use Rattle.sqlx_pool_parts.specs.Answers.{is_ended}
use Rattle.sqlx_pool_lists.specs.Balance.{one_if}
use Rattle.sqlx_pool.proofs.LeavesLemmas.{connect-leaves}
use Rattle.sqlx_pool.proofs.StepLemmas.{connect-lends, connect-few, calm-answer}
use Rattle.sqlx_family_pool.proofs.Replaces.{replaces-step}
use Rattle.sqlx_family_pool.proofs.locked.LockedFamily.finish_connect.Goals as goal

pub finish_connect-after-requires-clause-room : goal.finish_connect-after-requires-clause-room
finish_connect-after-requires-clause-room g c = room-there c.self.inside.logs.items c.self.invariant c.args.pool (grind arith) c.index_mut-log.result.now c.index_mut-log.ensures.value

pub invariant_of-self : goal.invariant_of-self
invariant_of-self g c =
    written-within c.self.inside.logs.items c.self.invariant c.args.pool (grind arith) c.index_mut-log.result.now c.index_mut-log.ensures.value
    (replaces-step c.args.pool c.self.inside.family (grind arith) c.finish_connect-after.ensures.becomes) c.finish_connect-after.ensures.makes c.finish_connect-after.ensures.balance
    (connect-leaves g.C.Depth.levels c.args.client c.args.ticket (moment_of (pool_in c.args.pool c.self.inside.family) c.args.now) c.finish_connect-after.result (pool_in c.args.pool c.self.inside.family))
    c.self.inside.connect (let lends = connect-lends c.args.client c.args.ticket (moment_of (pool_in c.args.pool c.self.inside.family) c.args.now) c.finish_connect-after.result in let same = ap one_if c.lends_new.ensures in let owned = c.lend_if-held.ensures.owned in let made = c.lend_if-held.ensures.made in record { owned = omega (arith, lends, same, owned); made_is = omega (arith, lends, same, made); few = inl (connect-few c.args.client c.args.ticket (moment_of (pool_in c.args.pool c.self.inside.family) c.args.now) c.finish_connect-after.result) }) c.finish_connect-after.new.log c.finish_connect-after.ensures.marks c.finish_connect-after.ensures.capacity

pub returns-clause-marks : goal.returns-clause-marks
returns-clause-marks g c = rw (← c.self.view_is) (λ named. logs-written c.self.inside.logs.items c.self.invariant c.args.pool (grind arith) c.index_mut-log.result.now c.index_mut-log.ensures.value c.finish_connect-after.new.log (connect_marks c.args.client c.args.ticket (moment_of (pool_in c.args.pool c.self.inside.family) c.args.now) c.finish_connect-after.result) c.finish_connect-after.ensures.marks)

pub returns-clause-calm : goal.returns-clause-calm
returns-clause-calm g c = λ calm. ap is_ended c.finish_connect-after.ensures.answer ∙ calm-answer (ticket_of c.args.client c.args.ticket (pool_in c.args.pool c.self.inside.family).tickets) (pool_in c.args.pool c.self.inside.family).closed (pool_in c.args.pool c.self.inside.family).next_conn (moment_of (pool_in c.args.pool c.self.inside.family) c.args.now) c.args.tried calm

pub returns-clause-becomes : goal.returns-clause-becomes
returns-clause-becomes g c = rw (← c.self.view_is) (λ named. c.finish_connect-after.ensures.becomes)

pub lend_if-held-requires-clause-part : goal.lend_if-held-requires-clause-part
lend_if-held-requires-clause-part g c = let owned = c.self.invariant.standing.owned in let few = few-held c.self.inside.family c.bounds.ensures in omega (arith, owned, few)
