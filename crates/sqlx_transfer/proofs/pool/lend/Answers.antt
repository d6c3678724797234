use Rattle.sqlx_transfer.proofs.Pools.{lends}
use Rattle.sqlx_transfer.proofs.pool.lend.Goals as goal

pub returns : goal.returns
returns g c = λ max held idle pool. lends max c.args.client _ c.args.pool.now.pool c.try_acquire.new.self.pool held idle c.try_acquire.result pool c.try_acquire.ensures.answer c.try_acquire.ensures.becomes
