use Rattle.std.proofs.Common.{◌∙◌, sym, ap, arith, length, length-append, find}
use Rattle.sqlx_pool_lists.specs.MaintenanceSteps.{is_reaped_at, without_first}
use Rattle.sqlx_pool_lists.proofs.IdleQueues.{found-behind, no-longer}
use Rattle.sqlx_pool_lists.proofs.idle_list.IdleList.take_reaped.Goals as goal

pub invariant_of-self : goal.invariant_of-self
invariant_of-self g c =
    let all = ap length c.look_anew.ensures.items in
    let e = ap length c.next_beyond.ensures.rest ∙ length-append c.look_anew.new.fresh.items _ in
    let n = length-append c.look_anew.new.fresh.items c.look_anew.new.rest.items in
    let less = no-longer (is_reaped_at c.args.options.now c.args.moment.0) c.look_anew.new.rest.items in
    let fits = c.self.invariant.all in
    record {
      all = omega (arith, all, e, n, less, fits);
      in_front = let room = c.self.invariant.in_front in let same = c.next_beyond.ensures.fresh ∙ c.look_anew.ensures.fresh in omega (arith, room, same);
      in_back = let room = c.self.invariant.in_back in let same = c.next_beyond.ensures.capacity ∙ c.look_anew.ensures.capacity in omega (arith, room, same);
      small = c.self.invariant.small;
    }

pub returns-clause-first : goal.returns-clause-first
returns-clause-first g c =
    let behind = found-behind (is_reaped_at c.args.options.now c.args.moment.0) c.look_anew.new.fresh.items c.look_anew.new.rest.items c.look_anew.ensures.none in
    rw (← c.self.view_is) (c.next_beyond.ensures.first ∙ sym behind.0 ∙ ap (find (is_reaped_at c.args.options.now c.args.moment.0)) c.look_anew.ensures.items)

pub returns-clause-rest : goal.returns-clause-rest
returns-clause-rest g c =
    let behind = found-behind (is_reaped_at c.args.options.now c.args.moment.0) c.look_anew.new.fresh.items c.look_anew.new.rest.items c.look_anew.ensures.none in
    rw (← c.self.view_is) (c.next_beyond.ensures.rest ∙ sym behind.1 ∙ ap (without_first (is_reaped_at c.args.options.now c.args.moment.0)) c.look_anew.ensures.items)
