use Rattle.std.proofs.Common.{ℕ, ◌++◌, inl, ap, ◌∙◌, arith}
use Rattle.sqlx_pool_lists.specs.Balance.{one_if}
use Rattle.sqlx_pool_lists.specs.PollSteps.{judged, test_marks}
use Rattle.sqlx_pool.proofs.LeavesLemmas.{leaves-along, test-leaves}
use Rattle.sqlx_pool.proofs.StepLemmas.{stepped, test-lends, test-few}
use Rattle.sqlx_pool.proofs.locked.Locked.finish_test.Goals as goal

pub invariant_of-self : goal.invariant_of-self
invariant_of-self g c =
    let core = c.self.inside.core.pool in
    let answer = c.finish_test-after.result in
    let lends = test-lends c.args.client c.args.ticket (judged c.args.verdict) answer in
    let same = ap one_if c.lends_tested.ensures in
    let owned = c.lend_if-held.ensures.owned in
    let made = c.lend_if-held.ensures.made in
    let capacity = c.test.ensures.capacity in
    let room = c.self.invariant.room in
    stepped c.self.invariant c.finish_test-after.ensures.balance c.finish_test-after.ensures.makes
    (leaves-along g.C.Depth.levels core _ _ c.finish_test-after.ensures.becomes (test-leaves g.C.Depth.levels c.args.client c.args.ticket answer core))
    c.self.inside.connect c.lend_if-held.new.self (record { owned = omega (arith, lends, same, owned); made_is = omega (arith, lends, same, made); few = inl (test-few c.args.client c.args.ticket (judged c.args.verdict) answer) })
    c.test.new.log.items _ (c.test.ensures.marks ∙ ap (λ (n : ℕ). c.self.inside.log.items ++ test_marks c.args.client c.args.ticket n answer) c.judged_of-conn.ensures) (omega (arith, room, capacity))
