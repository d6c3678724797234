use Rattle.sqlx_query.proofs.UnencodedLemmas.{unencoded_optional}
use Rattle.sqlx_query.proofs.types.read_query.ReadQuery.fetch_optional.Goals as goal

pub returns-clause-unencoded : goal.returns-clause-unencoded
returns-clause-unencoded g c = unencoded_optional _ _ _ g.M.Reader.reads _ _ c.fetch_optional.ensures.unencoded c.read_optional.ensures
