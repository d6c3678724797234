use Rattle.std.proofs.Common.{max, Some, ap, ◌∙◌}
use Rattle.sqlx_pool_lists.specs.Core.{Core}
use Rattle.sqlx_pool_lists.specs.MaintenanceSteps.{done}
use Rattle.sqlx_single.proofs.Singles.{opened_rests}
use Rattle.sqlx_single.proofs.opened.Goals as goal

pub returns : goal.returns
returns g c =
    opened_rests c.args.pool.now.pool c.minimum_done.new.self.pool c.args.raw c.requires
    (c.minimum_done.ensures.becomes ∙ ap (λ (d : Core g.row.C.Denot). done d.shut (max d.last 0) (Some c.args.raw) d) c.if-not-minimum_place.ensures.becomes)
