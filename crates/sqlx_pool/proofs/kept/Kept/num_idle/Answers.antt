use Rattle.sqlx_pool_history.proofs.Showing.{shows_value}
use Rattle.sqlx_pool.proofs.kept.Kept.num_idle.Goals as goal

pub returns-clause-saw : goal.returns-clause-saw
returns-clause-saw g c = shows_value _ _ _ _ _ c.show.ensures.all c.show.ensures.later c.show.ensures.ends (c.facts.ensures, c.num_idle.ensures.tells)
