use Rattle.std.proofs.Common.{ℕ, ◌++◌, inl, ap, ◌∙◌, arith}
use Rattle.sqlx_pool_core.specs.Logs.{moment_of}
use Rattle.sqlx_pool_lists.specs.Balance.{one_if}
use Rattle.sqlx_pool_lists.specs.PollSteps.{connect_marks}
use Rattle.sqlx_pool_lists.specs.Core.{ticket_of}
use Rattle.sqlx_pool_parts.specs.Answers.{is_ended}
use Rattle.sqlx_pool.proofs.LeavesLemmas.{leaves-along, connect-leaves}
use Rattle.sqlx_pool.proofs.StepLemmas.{stepped, connect-lends, connect-few, calm-answer}
use Rattle.sqlx_pool.proofs.locked.Locked.finish_connect.Goals as goal

pub invariant_of-self : goal.invariant_of-self
invariant_of-self g c =
    let core = c.self.inside.core.pool in
    let answer = c.finish_connect-after.result in
    let lends = connect-lends c.args.client c.args.ticket (moment_of core c.args.now) answer in
    let same = ap one_if c.lends_new.ensures in
    let owned = c.lend_if-held.ensures.owned in
    let made = c.lend_if-held.ensures.made in
    let capacity = c.connect.ensures.capacity in
    let room = c.self.invariant.room in
    stepped c.self.invariant c.finish_connect-after.ensures.balance c.finish_connect-after.ensures.makes
    (leaves-along g.C.Depth.levels core _ _ c.finish_connect-after.ensures.becomes (connect-leaves g.C.Depth.levels c.args.client c.args.ticket (moment_of core c.args.now) answer core))
    c.self.inside.connect c.lend_if-held.new.self (record { owned = omega (arith, lends, same, owned); made_is = omega (arith, lends, same, made); few = inl (connect-few c.args.client c.args.ticket (moment_of core c.args.now) answer) })
    c.connect.new.log.items _ (c.connect.ensures.marks ∙ ap (λ (n : ℕ). c.self.inside.log.items ++ connect_marks c.args.client c.args.ticket n answer) c.moment-moment.ensures.moment) (omega (arith, room, capacity))

pub returns-clause-calm : goal.returns-clause-calm
returns-clause-calm g c = λ calm. ap is_ended c.finish_connect-after.ensures.answer ∙ calm-answer (ticket_of c.args.client c.args.ticket c.self.inside.core.pool.tickets) c.self.inside.core.pool.shut c.self.inside.core.pool.next_conn (moment_of c.self.inside.core.pool c.args.now) c.args.tried calm
