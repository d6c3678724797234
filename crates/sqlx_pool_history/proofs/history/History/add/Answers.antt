use Rattle.sqlx_pool_history.proofs.Chaining.{last_here}
use Rattle.sqlx_pool_history.proofs.history.History.add.Goals as goal

pub returns-clause-last : goal.returns-clause-last
returns-clause-last g c = last_here _ c.add.new.self _ c.add.ensures
