use Rattle.std.proofs.Common.{ap, ◌∙◌, inl, arith}
use Rattle.sqlx_family.specs.Pools.{pool_in}
use Rattle.sqlx_family_pool.proofs.StepLemmas.{room-there, written-within, logs-written}
use Rattle.sqlx_pool_core.specs.Logs.{moment_of}
use Rattle.sqlx_pool_core.specs.ReturnSteps.{give_marks}
use Rattle.sqlx_pool_lists.specs.Core.{loan_of}
use Rattle.sqlx_pool_core.specs.Answers.{is_kept}
use Rattle.sqlx_pool_lists.specs.Balance.{one_if}
use Rattle.sqlx_pool.proofs.LeavesLemmas.{give-leaves}
use Rattle.sqlx_pool.proofs.StepLemmas.{give-lends, given-back, refused-give}
use Rattle.sqlx_family_pool.proofs.Replaces.{replaces-step}
use Rattle.sqlx_family_pool.proofs.locked.LockedFamily.give.Goals as goal

pub give-given-requires-clause-room : goal.give-given-requires-clause-room
give-given-requires-clause-room g c = room-there c.self.inside.logs.items c.self.invariant c.args.pool (grind arith) c.index_mut-log.result.now c.index_mut-log.ensures.value

pub invariant_of-self : goal.invariant_of-self
invariant_of-self g c =
    written-within c.self.inside.logs.items c.self.invariant c.args.pool (grind arith) c.index_mut-log.result.now c.index_mut-log.ensures.value
    (replaces-step c.args.pool c.self.inside.family (grind arith) c.give-given.ensures.becomes) c.give-given.ensures.makes c.give-given.ensures.balance
    (give-leaves g.C.Depth.levels (pool_in c.args.pool c.self.inside.family).options (pool_in c.args.pool c.self.inside.family).closed (moment_of (pool_in c.args.pool c.self.inside.family) c.args.now) c.args.accepted (loan_of c.args.client c.args.lent.id (pool_in c.args.pool c.self.inside.family).held) c.args.lent c.give-given.result (pool_in c.args.pool c.self.inside.family) c.give-given.ensures.answer c.requires.flat)
    c.self.inside.connect (let none = give-lends c.args.lent.id (moment_of (pool_in c.args.pool c.self.inside.family) c.args.now) c.give-given.result in let same = ap one_if c.is_held.ensures in let back = given-back c.give-given.result in let owned = c.take_back_if-left.ensures.owned in let made = c.take_back_if-left.ensures.made in record { owned = omega (arith, none, same, back, owned); made_is = omega (arith, none, made); few = inl (omega (arith, none)) }) c.give-given.new.log c.give-given.ensures.marks c.give-given.ensures.capacity

pub returns-clause-marks : goal.returns-clause-marks
returns-clause-marks g c = rw (← c.self.view_is) (λ named. logs-written c.self.inside.logs.items c.self.invariant c.args.pool (grind arith) c.index_mut-log.result.now c.index_mut-log.ensures.value c.give-given.new.log (give_marks c.args.lent.id (moment_of (pool_in c.args.pool c.self.inside.family) c.args.now) c.give-given.result) c.give-given.ensures.marks)

pub returns-clause-refused : goal.returns-clause-refused
returns-clause-refused g c = λ e. ap is_kept c.give-given.ensures.answer ∙ refused-give (pool_in c.args.pool c.self.inside.family).options (pool_in c.args.pool c.self.inside.family).closed (moment_of (pool_in c.args.pool c.self.inside.family) c.args.now) c.args.accepted e (loan_of c.args.client c.args.lent.id (pool_in c.args.pool c.self.inside.family).held) c.args.lent

pub returns-clause-becomes : goal.returns-clause-becomes
returns-clause-becomes g c = rw (← c.self.view_is) (λ named. c.give-given.ensures.becomes)
