use Rattle.std.proofs.Common.{◌≡◌, ◌∙◌, sym, ap, subst, take, find, None}
use Rattle.sqlx_pool_lists.specs.MaintenanceSteps.{is_reaped_at}
use Rattle.sqlx_pool_lists.proofs.IdleQueues.{none-before}
use Rattle.sqlx_pool_lists.proofs.idle_list.look_anew.Goals as goal

pub returns-in-Some-clause-none : goal.returns-in-Some-clause-none
returns-in-Some-clause-none g c =
    let is = c.put_back.ensures.left ∙ ap (take c.in-Some.at) c.first_beyond.ensures.items in
    subst (λ l. find (is_reaped_at c.args.options.now c.args.moment.0) l ≡ None) (sym is) (none-before (is_reaped_at c.args.options.now c.args.moment.0) c.args.fresh.now.items c.in-Some.at c.in-Some.ensures.some.0)
