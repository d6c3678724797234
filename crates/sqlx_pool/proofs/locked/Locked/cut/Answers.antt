use Rattle.std.proofs.Common.{◌-◌, ap, ◌∙◌, arith}
use Rattle.sqlx_pool_marks.specs.Cut.{needed_of}
use Rattle.sqlx_pool_lists.specs.declared.steps.Numbers.{Numbers}
use Rattle.sqlx_pool.proofs.CutLemmas.{lents-cut, cut-kept}
use Rattle.sqlx_pool.proofs.locked.Locked.cut.Goals as goal

-- the loans that are left are no more than were made
pub overflow_sub-self : goal.overflow_sub-self
overflow_sub-self g c =
    let is = c.cut.ensures.items ∙ ap (λ (n : Numbers). needed_of n.next_ticket n.next_conn c.self.inside.log.items) (c.numbers-numbers.ensures.marks c.self.inside.log.items c.self.invariant.standing.stands) in
    let fewer = lents-cut c.self.invariant c.cut.new.self.items is in
    let count = c.lents-lent.ensures in
    let made = c.made.ensures in
    omega (arith, fewer, count, made)

pub invariant_of-self : goal.invariant_of-self
invariant_of-self g c =
    let is = c.cut.ensures.items ∙ ap (λ (n : Numbers). needed_of n.next_ticket n.next_conn c.self.inside.log.items) (c.numbers-numbers.ensures.marks c.self.inside.log.items c.self.invariant.standing.stands) in
    let fewer = lents-cut c.self.invariant c.cut.new.self.items is in
    let count = c.lents-lent.ensures in
    let made = c.made.ensures in
    cut-kept c.self.invariant c.requires c.cut.new.self.items is _ c.len.result (c.made.result - c.lents-lent.result) _ c.len.ensures (omega (arith, fewer, count, made)) c.cut.ensures.room
