use Rattle.sqlx_pool_places.proofs.Edge.{edge_tells}
use Rattle.sqlx_pool_places.proofs.laws.edge_tells_the_order.Goals as goal

pub returns : goal.returns
returns c = edge_tells
