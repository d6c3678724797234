use Rattle.std.proofs.Common.{◌≤◌, ap, arith}
use Rattle.sqlx_pool_marks.specs.Cut.{needed_of}
use Rattle.sqlx_pool_marks.proofs.CutLemmas.{fewer-needed}
use Rattle.sqlx_pool_lists.specs.Balance.{is_lent, lents}
use Rattle.sqlx_family_steps.proofs.CutLemmas.{family-cuts}
use Rattle.sqlx_family_steps.proofs.cutting.cut.Goals as goal

-- the loans that are left are no more than were there
pub overflow_sub-start : goal.overflow_sub-start
overflow_sub-start g c =
    let fewer : lents (needed_of c.numbers-numbers.result.next_ticket c.numbers-numbers.result.next_conn c.args.log.now.items) ≤ lents c.args.log.now.items = fewer-needed _ _ is_lent c.args.log.now.items in
    let same = ap lents c.cut.ensures.items in
    let left = c.lents-left.ensures in
    let made = c.lents-made.ensures in
    omega (arith, fewer, same, left, made)

pub returns-clause-stands : goal.returns-clause-stands
returns-clause-stands g c = family-cuts c.args.family.now c.args.pool c.bounds.ensures

pub returns-clause-loans : goal.returns-clause-loans
returns-clause-loans g c =
    let fewer : lents (needed_of c.numbers-numbers.result.next_ticket c.numbers-numbers.result.next_conn c.args.log.now.items) ≤ lents c.args.log.now.items = fewer-needed _ _ is_lent c.args.log.now.items in
    let same = ap lents c.cut.ensures.items in
    let left = c.lents-left.ensures in
    let made = c.lents-made.ensures in
    omega (arith, fewer, same, left, made)
