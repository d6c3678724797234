use Rattle.std.proofs.Common.{ℕ, ◌+◌, ◌^◌, ◌≤◌, not, refl, sym, subst, ap, ◌∙◌}
use Rattle.sqlx_pool_marks.specs.Marks.{is_open, next_ticket}
use Rattle.sqlx_pool_lists.specs.declared.steps.Numbers.{Numbers}
use Rattle.sqlx_pool_core.specs.Logs.{moment_of}
use Rattle.sqlx_pool_lists.specs.PollSteps.{asked_marks}
use Rattle.sqlx_pool.proofs.AskLemmas.{closed_shut, exhausted_shut, closed_exhausted, closed_short, closed_ok, exhausted_short, exhausted_ok}
use Rattle.sqlx_pool.proofs.LeavesLemmas.{leaves-along, asked-leaves}
use Rattle.sqlx_pool.proofs.StepLemmas.{stepped, kept-books}
use Rattle.sqlx_pool.proofs.locked.Locked.ask.Goals as goal

pub invariant_of-self-2 : goal.invariant_of-self-2
invariant_of-self-2 g c =
    let core = c.self.inside.core.pool in
    let moment = moment_of core c.args.now in
    let made = asked_marks core c.args.client moment c.in-Some.ticket in
    stepped c.self.invariant {made = made} c.in-Some.ensures.balance c.in-Some.ensures.makes
    (leaves-along g.C.Depth.levels core _ _ c.in-Some.ensures.becomes (asked-leaves g.C.Depth.levels moment c.args.client (moment + core.options.acquire_timeout) core))
    c.self.inside.connect c.self.inside.books (kept-books c.self.inside.books made refl)
    _ _ c.in-Some.ensures.marks c.in-Some.ensures.room

pub returns-then-is_closed-clause-closed : goal.returns-then-is_closed-clause-closed
returns-then-is_closed-clause-closed g c = closed_shut _ _ refl (sym (ap (λ s. is_open s.marks) c.self.view_is) ∙ (c.is_closed.ensures.marks c.self.inside.log.items c.self.invariant.standing.stands ∙ ap not c.if-is_closed.true))

pub returns-then-is_closed-clause-exhausted : goal.returns-then-is_closed-clause-exhausted
returns-then-is_closed-clause-exhausted g c = exhausted_shut _ _ _ refl (sym (ap (λ s. is_open s.marks) c.self.view_is) ∙ (c.is_closed.ensures.marks c.self.inside.log.items c.self.invariant.standing.stands ∙ ap not c.if-is_closed.true))

pub returns-then-numbers-gt-NUMBERS-clause-closed : goal.returns-then-numbers-gt-NUMBERS-clause-closed
returns-then-numbers-gt-NUMBERS-clause-closed g c = closed_exhausted _ _ refl (sym (ap (λ s. is_open s.marks) c.self.view_is) ∙ (c.is_closed.ensures.marks c.self.inside.log.items c.self.invariant.standing.stands ∙ ap not c.if-is_closed.false))

pub returns-in_default-clause-closed : goal.returns-in_default-clause-closed
returns-in_default-clause-closed g c = closed_short _ _ refl (sym (ap (λ s. is_open s.marks) c.self.view_is) ∙ (c.is_closed.ensures.marks c.self.inside.log.items c.self.invariant.standing.stands ∙ ap not c.if-is_closed.false))

pub returns-in_default-clause-exhausted : goal.returns-in_default-clause-exhausted
returns-in_default-clause-exhausted g c = exhausted_short _ _ _ refl
    (subst (λ (n : ℕ). n ≤ 2 ^ 63) (ap (λ (n : Numbers). n.next_ticket) (c.numbers.ensures.marks c.self.inside.log.items c.self.invariant.standing.stands) ∙ ap (λ s. next_ticket s.marks) c.self.view_is) c.if-numbers-gt-NUMBERS.false)

pub returns-clause-closed : goal.returns-clause-closed
returns-clause-closed g c = closed_ok _ _ _ refl (sym (ap (λ s. is_open s.marks) c.self.view_is) ∙ (c.is_closed.ensures.marks c.self.inside.log.items c.self.invariant.standing.stands ∙ ap not c.if-is_closed.false))

pub returns-clause-exhausted : goal.returns-clause-exhausted
returns-clause-exhausted g c = exhausted_ok _ _ _ _ refl
    (subst (λ (n : ℕ). n ≤ 2 ^ 63) (ap (λ (n : Numbers). n.next_ticket) (c.numbers.ensures.marks c.self.inside.log.items c.self.invariant.standing.stands) ∙ ap (λ s. next_ticket s.marks) c.self.view_is) c.if-numbers-gt-NUMBERS.false)
