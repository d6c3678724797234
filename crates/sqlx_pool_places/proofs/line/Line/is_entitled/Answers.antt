use Rattle.std.proofs.Common.{ap}
use Rattle.sqlx_pool_places.specs.Line.{is_below_edge}
use Rattle.sqlx_pool_places.proofs.line.Line.is_entitled.Goals as goal

pub returns : goal.returns
returns c = ap (is_below_edge c.args.ticket) c.self.view_is
