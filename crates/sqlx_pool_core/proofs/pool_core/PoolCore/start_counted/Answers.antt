use Rattle.sqlx_pool_core.proofs.Alone.{start-alone, moves-alone, turn-alone}
use Rattle.std.proofs.Common.{◌≡◌, refl, ◌<◌, max, sym, ap, ◌∙◌, subst, arith}
use Rattle.sqlx_pool_lists.specs.Core.{free}
use Rattle.sqlx_pool_lists.specs.CoreTurn.{before}
use Rattle.sqlx_pool_lists.specs.PollSteps.{phase_for, start_marks}
use Rattle.sqlx_pool_core.specs.KeptLine.{IsNearlyLined, leaves, taken_out}
use Rattle.sqlx_pool_core.proofs.LineSteps.{told-first, start-told, start-nearly}
use Rattle.sqlx_pool_core.proofs.Looks.{looks-without}
use Rattle.sqlx_pool_core.proofs.LonePools.{pool-is}
use Rattle.sqlx_pool_places.specs.Line.{TicketLine}
use Rattle.sqlx_pool_core.specs.KeptLine.{IsLined}
use Rattle.sqlx_pool_core.specs.LonePool.{LeavesEdge, lone_of}
use Rattle.sqlx_pool_core.proofs.LonePools.{edge-left, if-goes-on}
use Rattle.sqlx_pool_core.proofs.LineSteps.{start-lined}
use Rattle.sqlx_pool_core.proofs.Looks.{same-edge, same-moves}
use Rattle.sqlx_pool_core.proofs.pool_core.PoolCore.start_counted.Goals as goal

pub start-started-requires : goal.start-started-requires
start-started-requires g c = record {
  permit = λ is.
      let first : before c.args.ticket c.self.inside.pool.tickets < free c.self.inside.pool =
      told-first _ _ c.is_entitled-entitled.result c.args.client c.args.ticket c.sound.ensures c.self.invariant.lined c.is_entitled-entitled.ensures is in
      omega (arith, first);
}

pub serve-requires : goal.serve-requires
serve-requires g c = record {
  near =
      subst (IsNearlyLined c.start-started.new.self) (sym c.take_out.ensures.becomes)
      (subst (λ b. IsNearlyLined c.start-started.new.self (taken_out b c.args.ticket c.self.inside.line)) (sym c.leaves-went.ensures)
      (start-nearly _ _ _ c.is_entitled-entitled.result c.args.client c.args.ticket _ c.start-started.result c.sound.ensures c.sound-2.ensures c.self.invariant.lined c.is_entitled-entitled.ensures c.start-started.ensures.answer c.start-started.ensures.becomes
      c.start-started.ensures.balance));
}

pub returns-clause-makes : goal.returns-clause-makes
returns-clause-makes g c =
    start-alone _ _ _ (pool-is c.self.view_is) c.args.ticket c.is_entitled-entitled.result (λ core. start_marks c.args.ticket (phase_for c.args.client c.args.ticket core.tickets) c.start-started.result) _ refl c.self.invariant.alone c.sound-2.ensures c.start-started.ensures.stays
    (told-first _ _ c.is_entitled-entitled.result c.args.client c.args.ticket c.sound.ensures c.self.invariant.lined c.is_entitled-entitled.ensures) c.start-started.ensures.draws c.start-started.ensures.makes

pub returns-clause-balance : goal.returns-clause-balance
returns-clause-balance g c = moves-alone _ _ _ (pool-is c.self.view_is) (λ core. start_marks c.args.ticket (phase_for c.args.client c.args.ticket core.tickets) c.start-started.result) _ 0 0 refl c.start-started.ensures.balance

pub returns-clause-own : goal.returns-clause-own
returns-clause-own g c =
    start-told _ _ _ c.is_entitled-entitled.result c.args.client c.args.ticket c.moment-moment.result.0 c.args.now.0 c.start-started.result (pool-is c.self.view_is) c.self.invariant.alone.closed c.sound.ensures c.self.invariant.lined c.is_entitled-entitled.ensures
    c.moment-moment.ensures c.start-started.ensures.answer

pub returns-clause-answer : goal.returns-clause-answer
returns-clause-answer g c = turn-alone _ _ c.start-started.new.self (pool-is c.self.view_is) c.args.client c.args.ticket (max c.args.self.now.pool.last c.args.now.0) c.start-started.result (returns-clause-own g c)

pub returns-clause-cost : goal.returns-clause-cost
returns-clause-cost g c =
    looks-without c.self.inside.pool c.args.self.now c.start-started.new.self c.self.inside.line c.take_out.new.line c.serve.new.line c.args.ticket c.leaves-went.result _ _ _ c.self.view_is c.sound.ensures c.self.invariant.lined c.take_out.ensures.becomes
    c.start-started.ensures.draws.more_tickets c.take_out.ensures.cost
    (record { cost = c.serve.ensures.cost; once = c.serve.ensures.once; turns = c.serve.ensures.turns; moves = c.serve.ensures.moves; edge = c.serve.ensures.edge; lined = c.serve.ensures.lined; sound = c.serve.ensures.sound })

pub returns-clause-begun : goal.returns-clause-begun
returns-clause-begun g c =
    let line = c.self.inside.line in
    let new = c.start-started.new.self in
    let mid : c.take_out.new.line ≡ taken_out (leaves c.start-started.result) c.args.ticket line = c.take_out.ensures.becomes ∙ ap (λ b. taken_out b c.args.ticket line) c.leaves-went.ensures in
    if-goes-on (IsLined new (taken_out (leaves c.start-started.result) c.args.ticket line)) (LeavesEdge c.args.self.now (lone_of new c.serve.new.line)) c.start-started.result
    (λ lined. edge-left c.args.self.now c.self.inside.pool new line c.take_out.new.line c.serve.new.line c.self.view_is
    (ap (λ (x : TicketLine). x.edge) mid ∙ same-edge c.args.ticket (leaves c.start-started.result) line) (ap (λ (x : TicketLine). x.moves) mid ∙ same-moves c.args.ticket (leaves c.start-started.result) line)
    (c.serve.ensures.still (subst (IsLined new) (sym mid) lined)))
    (start-lined _ _ _ c.is_entitled-entitled.result c.args.client c.args.ticket _ c.start-started.result c.sound.ensures c.sound-2.ensures c.self.invariant.lined c.is_entitled-entitled.ensures c.start-started.ensures.answer c.start-started.ensures.becomes
    c.start-started.ensures.balance)
