use Rattle.sqlx_single.proofs.Singles.{kept_rests}
use Rattle.sqlx_single.proofs.take_back.Goals as goal

pub returns : goal.returns
returns g c = kept_rests c.args.pool.now.pool c.give.new.self.pool c.args.lent _ c.requires c.in-Kept.ensures.becomes
