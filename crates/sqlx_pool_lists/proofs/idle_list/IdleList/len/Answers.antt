use Rattle.std.proofs.Common.{arith, length-append}
use Rattle.sqlx_pool_lists.proofs.idle_list.IdleList.len.Goals as goal

pub overflow_add-result : goal.overflow_add-result
overflow_add-result g c =
    let n = length-append c.self.inside.fresh.items c.self.inside.rest.items in
    let all = c.self.invariant.all in
    omega (arith, n, all)
