use Rattle.std.proofs.Common.{ap}
use Rattle.sqlx_pool.proofs.lone.LockedArcGlobalPoolSteps.set_connect_options.Goals as goal

pub returns : goal.returns
returns g c = record { marks = ap (λ s. s.marks) c.set_connect_options.ensures.set; core = ap (λ s. s.core) c.set_connect_options.ensures.set }
