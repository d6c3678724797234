use Rattle.std.proofs.Common.{◌∙◌, ◌<◌, ◌++◌, sym, ap, subst, length, take, drop, append_assoc}
use Rattle.sqlx_pool_lists.specs.MaintenanceSteps.{is_reaped_at}
use Rattle.sqlx_pool_lists.proofs.IdleQueues.{all-left, some-left, first-there}
use Rattle.sqlx_pool_lists.proofs.idle_list.next_beyond.Goals as goal

pub returns-in_err-at-clause-rest : goal.returns-in_err-at-clause-rest
returns-in_err-at-clause-rest g c = ap (λ l. c.args.fresh.now.items ++ l) (c.first_beyond.ensures.items ∙ sym (all-left (is_reaped_at c.args.options.now c.args.moment.0) c.args.rest.now.items c.in_err-at.ensures.none))

pub returns-clause-first : goal.returns-clause-first
returns-clause-first g c =
    let left = ap (drop c.in_ok-at.at) (sym c.first_beyond.ensures.items) ∙ sym c.append.ensures.left in
    let some = c.pop_front.ensures.variant.1 (subst (λ l. 0 < length l) left (some-left c.args.rest.now.items c.in_ok-at.at c.in_ok-at.ensures.some.1)) in
    (first-there (is_reaped_at c.args.options.now c.args.moment.0) c.args.rest.now.items c.in_ok-at.at c.pop_front.result c.pop_front.new.self.items c.in_ok-at.ensures.some.0 c.in_ok-at.ensures.some.1 (left ∙ c.pop_front.ensures.items) some).0

pub returns-clause-rest : goal.returns-clause-rest
returns-clause-rest g c =
    let left = ap (drop c.in_ok-at.at) (sym c.first_beyond.ensures.items) ∙ sym c.append.ensures.left in
    let some = c.pop_front.ensures.variant.1 (subst (λ l. 0 < length l) left (some-left c.args.rest.now.items c.in_ok-at.at c.in_ok-at.ensures.some.1)) in
    let there = first-there (is_reaped_at c.args.options.now c.args.moment.0) c.args.rest.now.items c.in_ok-at.at c.pop_front.result c.pop_front.new.self.items c.in_ok-at.ensures.some.0 c.in_ok-at.ensures.some.1 (left ∙ c.pop_front.ensures.items) some in
    ap (λ l. l ++ c.pop_front.new.self.items) (c.append.ensures.put ∙ ap (λ l. c.args.fresh.now.items ++ take c.in_ok-at.at l) c.first_beyond.ensures.items)
    ∙ append_assoc c.args.fresh.now.items (take c.in_ok-at.at c.args.rest.now.items) c.pop_front.new.self.items
    ∙ ap (λ l. c.args.fresh.now.items ++ l) there.1
