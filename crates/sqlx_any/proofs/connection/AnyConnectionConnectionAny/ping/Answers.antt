use Rattle.sqlx_any.proofs.connection.AnyConnectionConnectionAny.ping.Goals as goal

pub returns-clause-cause : goal.returns-clause-cause
returns-clause-cause g c = c.ping.ensures.cause

pub returns-clause-does : goal.returns-clause-does
returns-clause-does g c = c.ping.ensures.does
