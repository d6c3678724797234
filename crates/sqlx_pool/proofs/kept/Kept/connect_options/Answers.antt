use Rattle.std.proofs.lemmas.Result.{IfOk-weaker}
use Rattle.sqlx_pool_history.proofs.Showing.{shows_value}
use Rattle.sqlx_pool.proofs.kept.Kept.connect_options.Goals as goal

pub returns-clause-saw : goal.returns-clause-saw
returns-clause-saw g c = IfOk-weaker c.options_of.result _ _ (λ options is. shows_value _ _ _ _ _ c.show.ensures.all c.show.ensures.later c.show.ensures.ends (c.facts.ensures, is)) c.options_of.ensures
