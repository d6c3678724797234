use Rattle.sqlx_pool_history.proofs.Showing.{shows_value}
use Rattle.sqlx_pool.proofs.kept.Kept.tests_at.Goals as goal

pub returns : goal.returns
returns g c = shows_value _ _ _ _ _ c.show.ensures.all c.show.ensures.later c.show.ensures.ends (c.facts.ensures, c.tests_at.ensures)
