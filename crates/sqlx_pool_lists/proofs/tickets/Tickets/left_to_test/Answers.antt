use Rattle.std.proofs.Common.{rules, tests, arith, ◌≡◌, ◌-◌}
use Rattle.sqlx_pool_lists.proofs.Counting.{few-left}
use Rattle.sqlx_pool_lists.proofs.TicketPlaces.{left-parts}
use Rattle.sqlx_pool_lists.proofs.tickets.Tickets.left_to_test.Goals as goal

-- there are at most 2 ^ 57 tickets, and sixteen tests are left for each at most
pub overflow_mul-result : goal.overflow_mul-result
overflow_mul-result c =
    let xs = c.args.self.now in
    let less : c.saturating_sub.result ≡ c.args.tries - 1 = search (rules, tests) in
    rw (c.waiting.ensures, less) (omega (arith, left-parts c.args.tries xs, few-left c.args.tries xs c.requires, c.left_for_gone.ensures.few))

pub overflow_add-result : goal.overflow_add-result
overflow_add-result c =
    let xs = c.args.self.now in
    let less : c.saturating_sub.result ≡ c.args.tries - 1 = search (rules, tests) in
    rw (c.left_for_gone.ensures.left, c.waiting.ensures, less) (omega (arith, left-parts c.args.tries xs, few-left c.args.tries xs c.requires, c.left_for_gone.ensures.few))

pub returns-clause-left : goal.returns-clause-left
returns-clause-left c =
    let less : c.saturating_sub.result ≡ c.args.tries - 1 = search (rules, tests) in
    rw (c.left_for_gone.ensures.left, c.waiting.ensures, less) (left-parts c.args.tries c.args.self.now)

pub returns-clause-few : goal.returns-clause-few
returns-clause-few c =
    let left = returns-clause-left c in
    let few = few-left c.args.tries c.args.self.now c.requires in
    omega (arith, left, few)
