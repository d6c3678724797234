use Rattle.sqlx_pool_places.proofs.Served.{leaves_with}
use Rattle.sqlx_pool_places.proofs.laws.leaves_with_a_permit.Goals as goal

pub returns : goal.returns
returns c = leaves_with
