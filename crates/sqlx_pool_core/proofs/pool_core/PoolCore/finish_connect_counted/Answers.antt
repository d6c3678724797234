use Rattle.sqlx_pool_core.proofs.Alone.{plain-alone, moves-alone}
use Rattle.std.proofs.Common.{rules, ◌≡◌, ◌∙◌, ap, ℕ, max}
use Rattle.sqlx_pool_lists.specs.Core.{ticket_of}
use Rattle.sqlx_pool_lists.specs.PollSteps.{connect_answer, connect_marks}
use Rattle.sqlx_pool_core.proofs.pool_core.PoolCore.finish_connect_counted.Goals as goal
use Rattle.sqlx_pool_core.proofs.Looks.{looks-beside}
use Rattle.sqlx_pool_core.proofs.LonePools.{pool-is}
use Rattle.sqlx_pool_core.proofs.LineSteps.{nearly-from, connect-beside}

pub returns-clause-makes : goal.returns-clause-makes
returns-clause-makes g c =
    plain-alone _ _ _ (pool-is c.self.view_is) (λ core. connect_marks c.args.client c.args.ticket (max core.last c.args.now.0) c.finish_connect-after.result) _ (ap (λ (m : ℕ). connect_marks c.args.client c.args.ticket m c.finish_connect-after.result) c.moment-moment.ensures) c.self.invariant.alone c.sound-2.ensures c.finish_connect-after.ensures.stays c.finish_connect-after.ensures.draws c.finish_connect-after.ensures.makes

pub returns-clause-balance : goal.returns-clause-balance
returns-clause-balance g c = moves-alone _ _ _ (pool-is c.self.view_is) (λ core. connect_marks c.args.client c.args.ticket (max core.last c.args.now.0) c.finish_connect-after.result) _ 0 0 (ap (λ (m : ℕ). connect_marks c.args.client c.args.ticket m c.finish_connect-after.result) c.moment-moment.ensures) c.finish_connect-after.ensures.balance

pub returns-clause-marks : goal.returns-clause-marks
returns-clause-marks g c = λ marks s.
    let answer : c.finish_connect-after.result ≡ connect_answer (ticket_of c.args.client c.args.ticket c.args.self.now.pool.tickets) c.args.self.now.pool.shut c.args.self.now.pool.next_conn (max c.args.self.now.pool.last c.args.now.0) c.args.tried = search rules in
    answer ∙ (λ i. connect_answer (ticket_of c.args.client c.args.ticket c.args.self.now.pool.tickets) (s.shut i) (s.conn_number i) (max c.args.self.now.pool.last c.args.now.0) c.args.tried)

pub serve-requires : goal.serve-requires
serve-requires g c = record {
  near =
      nearly-from _ _ _ c.self.invariant.lined
      (connect-beside _ _ c.sound.ensures c.args.client c.args.ticket _ _ _ c.args.tried c.finish_connect-after.result c.finish_connect-after.ensures.answer c.finish_connect-after.ensures.becomes c.finish_connect-after.ensures.balance);
}

pub returns-clause-cost : goal.returns-clause-cost
returns-clause-cost g c =
    looks-beside c.self.inside.pool c.args.self.now c.finish_connect-after.new.self c.self.inside.line c.serve.new.line _ _ c.self.view_is c.sound.ensures c.self.invariant.lined c.finish_connect-after.ensures.draws.more_tickets
    (record { cost = c.serve.ensures.cost; once = c.serve.ensures.once; turns = c.serve.ensures.turns; moves = c.serve.ensures.moves; edge = c.serve.ensures.edge; lined = c.serve.ensures.lined; sound = c.serve.ensures.sound })
