use Rattle.sqlx_pool_core.proofs.Alone.{plain-alone, moves-alone}
use Rattle.std.proofs.Common.{rules, subst, ◌≡◌, ap, ℕ, max}
use Rattle.sqlx_pool_lists.specs.Core.{loan_of}
use Rattle.sqlx_pool_lists.specs.Sound.{IsSound}
use Rattle.sqlx_pool_lists.specs.Balance.{given_back}
use Rattle.sqlx_pool_core.specs.ReturnSteps.{give_answer, give_marks}
use Rattle.sqlx_pool_core.proofs.AnswersAtMarks.{give-at}
use Rattle.sqlx_pool_core.proofs.Looks.{looks-beside}
use Rattle.sqlx_pool_core.proofs.LonePools.{pool-is}
use Rattle.sqlx_pool_core.proofs.pool_core.PoolCore.give_counted.Goals as goal

pub returns-clause-makes : goal.returns-clause-makes
returns-clause-makes g c =
    plain-alone _ _ _ (pool-is c.self.view_is) (λ core. give_marks c.args.lent.id (max core.last c.args.now.0) c.give-given.result) _ (ap (λ (m : ℕ). give_marks c.args.lent.id m c.give-given.result) c.moment-moment.ensures) c.self.invariant.alone c.sound-2.ensures c.give-given.ensures.stays c.give-given.ensures.draws c.give-given.ensures.makes

pub returns-clause-balance : goal.returns-clause-balance
returns-clause-balance g c = moves-alone _ _ _ (pool-is c.self.view_is) (λ core. give_marks c.args.lent.id (max core.last c.args.now.0) c.give-given.result) _ (given_back c.give-given.result) 0 (ap (λ (m : ℕ). give_marks c.args.lent.id m c.give-given.result) c.moment-moment.ensures) c.give-given.ensures.balance

pub returns-clause-marks : goal.returns-clause-marks
returns-clause-marks g c = λ marks s.
    let sound : IsSound c.args.self.now.pool = subst IsSound (pool-is c.self.view_is) c.sound.ensures in
    let answer : c.give-given.result ≡ give_answer c.args.self.now.pool.options c.args.self.now.pool.shut (max c.args.self.now.pool.last c.args.now.0) c.args.accepted (loan_of c.args.client c.args.lent.id c.args.self.now.pool.held) c.args.lent = search rules in
    give-at c.args.self.now.pool marks s sound c.args.client (max c.args.self.now.pool.last c.args.now.0) c.args.accepted c.args.lent c.give-given.result answer

pub returns-clause-cost : goal.returns-clause-cost
returns-clause-cost g c =
    looks-beside c.self.inside.pool c.args.self.now c.give-given.new.self c.self.inside.line c.serve.new.line _ _ c.self.view_is c.sound.ensures c.self.invariant.lined c.give-given.ensures.draws.more_tickets
    (record { cost = c.serve.ensures.cost; once = c.serve.ensures.once; turns = c.serve.ensures.turns; moves = c.serve.ensures.moves; edge = c.serve.ensures.edge; lined = c.serve.ensures.lined; sound = c.serve.ensures.sound })
