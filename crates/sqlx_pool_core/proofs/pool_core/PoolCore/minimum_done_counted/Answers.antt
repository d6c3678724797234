use Rattle.sqlx_pool_core.proofs.Alone.{plain-alone, moves-alone}
use Rattle.std.proofs.Common.{ap₂, ℕ, Bool, max, ◌≤◌, refl, sym, subst}
use Rattle.sqlx_pool_lists.specs.MaintenanceSteps.{done_marks}
use Rattle.sqlx_pool_core.proofs.Looks.{looks-beside}
use Rattle.sqlx_pool_core.proofs.LonePools.{pool-is}
use Rattle.sqlx_pool_lists.specs.Core.{Core, waiting, free}
use Rattle.sqlx_pool_core.proofs.LonePools.{edge-left}
use Rattle.sqlx_pool_core.proofs.LineSteps.{done-lined}
use Rattle.sqlx_pool_core.proofs.pool_core.PoolCore.minimum_done_counted.Goals as goal

pub returns-clause-makes : goal.returns-clause-makes
returns-clause-makes g c =
    plain-alone _ _ _ (pool-is c.self.view_is) (λ core. done_marks core.shut core.next_conn (max core.last c.args.now.0) c.args.raw) _ (ap₂ (λ (b : Bool) (m : ℕ). done_marks b c.self.inside.pool.next_conn m c.args.raw) c.self.invariant.alone.closed c.moment-moment.ensures) c.self.invariant.alone c.sound-2.ensures c.minimum_done-back.ensures.stays c.minimum_done-back.ensures.draws c.minimum_done-back.ensures.makes

pub returns-clause-balance : goal.returns-clause-balance
returns-clause-balance g c = moves-alone _ _ _ (pool-is c.self.view_is) (λ core. done_marks core.shut core.next_conn (max core.last c.args.now.0) c.args.raw) _ 0 0 (ap₂ (λ (b : Bool) (m : ℕ). done_marks b c.self.inside.pool.next_conn m c.args.raw) c.self.invariant.alone.closed c.moment-moment.ensures) c.minimum_done-back.ensures.balance

pub returns-clause-cost : goal.returns-clause-cost
returns-clause-cost g c =
    looks-beside c.self.inside.pool c.args.self.now c.minimum_done-back.new.self c.self.inside.line c.serve.new.line _ _ c.self.view_is c.sound.ensures c.self.invariant.lined c.minimum_done-back.ensures.draws.more_tickets
    (record { cost = c.serve.ensures.cost; once = c.serve.ensures.once; turns = c.serve.ensures.turns; moves = c.serve.ensures.moves; edge = c.serve.ensures.edge; lined = c.serve.ensures.lined; sound = c.serve.ensures.sound })

pub returns-clause-all : goal.returns-clause-all
returns-clause-all g c = λ all.
    edge-left c.args.self.now c.self.inside.pool c.minimum_done-back.new.self c.self.inside.line c.self.inside.line c.serve.new.line c.self.view_is refl refl
    (c.serve.ensures.still
    (done-lined c.self.inside.pool c.minimum_done-back.new.self c.self.inside.line _ _ _ c.sound.ensures c.self.invariant.lined (subst (λ (n : Core _). 1 ≤ n.places) (sym (pool-is c.self.view_is)) c.requires) c.minimum_done-back.ensures.becomes
    (subst (λ (n : Core _). waiting n.tickets ≤ free n) (sym (pool-is c.self.view_is)) all)))
