use Rattle.sqlx_transfer.proofs.Pools.{takes_back}
use Rattle.sqlx_transfer.proofs.pool.take_back.Goals as goal

pub returns : goal.returns
returns g c = λ max before after idle pool. takes_back max c.args.client _ c.args.pool.now.pool c.give.new.self.pool before after idle c.args.lent c.give.result c.bounds.ensures.numbered pool c.give.ensures.answer c.give.ensures.becomes
