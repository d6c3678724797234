use Rattle.std.proofs.Common.{ℕ, ◌++◌, inl, ap, ◌∙◌, arith}
use Rattle.sqlx_pool_lists.specs.Core.{loan_of}
use Rattle.sqlx_pool_core.specs.Logs.{moment_of}
use Rattle.sqlx_pool_lists.specs.Balance.{one_if}
use Rattle.sqlx_pool_core.specs.ReturnSteps.{give_marks}
use Rattle.sqlx_pool_core.specs.Answers.{is_kept}
use Rattle.sqlx_pool.proofs.LeavesLemmas.{leaves-along, give-leaves}
use Rattle.sqlx_pool.proofs.StepLemmas.{stepped, give-lends, given-back, refused-give}
use Rattle.sqlx_pool.proofs.locked.Locked.give.Goals as goal

pub invariant_of-self : goal.invariant_of-self
invariant_of-self g c =
    let core = c.self.inside.core.pool in
    let moment = moment_of core c.args.now in
    let answer = c.give-given.result in
    let none = give-lends c.args.lent.id moment answer in
    let same = ap one_if c.is_held.ensures in
    let back = given-back answer in
    let owned = c.take_back_if-left.ensures.owned in
    let made = c.take_back_if-left.ensures.made in
    let capacity = c.give.ensures.capacity in
    let room = c.self.invariant.room in
    stepped c.self.invariant c.give-given.ensures.balance c.give-given.ensures.makes
    (leaves-along g.C.Depth.levels core _ _ c.give-given.ensures.becomes (give-leaves g.C.Depth.levels core.options core.shut moment c.args.accepted (loan_of c.args.client c.args.lent.id core.held) c.args.lent answer core c.give-given.ensures.answer c.requires.flat))
    c.self.inside.connect c.take_back_if-left.new.self (record { owned = omega (arith, none, same, back, owned); made_is = omega (arith, none, made); few = inl (omega (arith, none)) })
    c.give.new.log.items _ (c.give.ensures.marks ∙ ap (λ (n : ℕ). c.self.inside.log.items ++ give_marks c.args.lent.id n answer) c.moment-moment.ensures.moment) (omega (arith, room, capacity))

pub returns-clause-refused : goal.returns-clause-refused
returns-clause-refused g c = λ e.
    let core = c.self.inside.core.pool in
    ap is_kept c.give-given.ensures.answer ∙ refused-give core.options core.shut (moment_of core c.args.now) c.args.accepted e (loan_of c.args.client c.args.lent.id core.held) c.args.lent
