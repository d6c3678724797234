use Rattle.sqlx_pool_places.proofs.Served.{one_move}
use Rattle.sqlx_pool_places.proofs.laws.one_move_a_permit.Goals as goal

pub returns : goal.returns
returns c = one_move
