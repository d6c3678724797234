use Rattle.std.proofs.Common.{◌∙◌}
use Rattle.sqlx_query.proofs.types.map.Map.fetch.Goals as goal

pub returns-clause-rows : goal.returns-clause-rows
returns-clause-rows g c = (c.fetch.ensures.rows.0, c.fetch.ensures.rows.1, c.new.ensures.rows ∙ c.fetch.ensures.rows.2)
