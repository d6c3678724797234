use Rattle.std.proofs.Common.{arith}
use Rattle.std.proofs.lemmas.List.Sums.{count_by-le-length}
use Rattle.sqlx_pool_lists.specs.Core.{waits}
use Rattle.sqlx_pool_lists.specs.Balance.{is_testing}
use Rattle.sqlx_pool_core.proofs.member.Member.due.Goals as goal

pub overflow_mul-result : goal.overflow_mul-result
overflow_mul-result g c = omega (arith, count_by-le-length waits c.self.inside.tickets, count_by-le-length is_testing c.self.inside.tickets, c.self.invariant.0.within, c.self.invariant.0.few)

pub overflow_mul-result-2 : goal.overflow_mul-result-2
overflow_mul-result-2 g c = omega (arith, count_by-le-length waits c.self.inside.tickets, count_by-le-length is_testing c.self.inside.tickets, c.self.invariant.0.within, c.self.invariant.0.few)

pub overflow_mul-result-3 : goal.overflow_mul-result-3
overflow_mul-result-3 g c = omega (arith, count_by-le-length waits c.self.inside.tickets, count_by-le-length is_testing c.self.inside.tickets, c.self.invariant.0.within, c.self.invariant.0.few)

pub overflow_mul-result-4 : goal.overflow_mul-result-4
overflow_mul-result-4 g c = omega (arith, count_by-le-length waits c.self.inside.tickets, count_by-le-length is_testing c.self.inside.tickets, c.self.invariant.0.within, c.self.invariant.0.few)

pub overflow_mul-result-5 : goal.overflow_mul-result-5
overflow_mul-result-5 g c = omega (arith, count_by-le-length waits c.self.inside.tickets, count_by-le-length is_testing c.self.inside.tickets, c.self.invariant.0.within, c.self.invariant.0.few)

pub overflow_add-result : goal.overflow_add-result
overflow_add-result g c = omega (arith, count_by-le-length waits c.self.inside.tickets, count_by-le-length is_testing c.self.inside.tickets, c.self.invariant.0.within, c.self.invariant.0.few)

pub overflow_add-result-2 : goal.overflow_add-result-2
overflow_add-result-2 g c = omega (arith, count_by-le-length waits c.self.inside.tickets, count_by-le-length is_testing c.self.inside.tickets, c.self.invariant.0.within, c.self.invariant.0.few)

pub overflow_add-result-3 : goal.overflow_add-result-3
overflow_add-result-3 g c = omega (arith, count_by-le-length waits c.self.inside.tickets, count_by-le-length is_testing c.self.inside.tickets, c.self.invariant.0.within, c.self.invariant.0.few)

pub overflow_add-result-4 : goal.overflow_add-result-4
overflow_add-result-4 g c = omega (arith, count_by-le-length waits c.self.inside.tickets, count_by-le-length is_testing c.self.inside.tickets, c.self.invariant.0.within, c.self.invariant.0.few)

pub overflow_add-result-5 : goal.overflow_add-result-5
overflow_add-result-5 g c = omega (arith, count_by-le-length waits c.self.inside.tickets, count_by-le-length is_testing c.self.inside.tickets, c.self.invariant.0.within, c.self.invariant.0.few)

pub overflow_add-result-6 : goal.overflow_add-result-6
overflow_add-result-6 g c = omega (arith, count_by-le-length waits c.self.inside.tickets, count_by-le-length is_testing c.self.inside.tickets, c.self.invariant.0.within, c.self.invariant.0.few)

pub overflow_add-result-7 : goal.overflow_add-result-7
overflow_add-result-7 g c = omega (arith, count_by-le-length waits c.self.inside.tickets, count_by-le-length is_testing c.self.inside.tickets, c.self.invariant.0.within, c.self.invariant.0.few)
