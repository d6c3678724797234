use Rattle.sqlx_query_rows.specs.Mapping.{Refused}
use Rattle.sqlx_query.proofs.CauseLemmas.{cause_of_one}
use Rattle.sqlx_query.proofs.UnencodedLemmas.{unencoded_one}
use Rattle.sqlx_query.proofs.types.read_query.ReadQuery.fetch_one.Goals as goal

pub returns-clause-cause : goal.returns-clause-cause
returns-clause-cause g c = cause_of_one g.M.Reader.reads (Refused g.M.Reader.reads) _ (λ row e read. (row, read)) _ _ c.fetch_one.ensures.cause c.read_one.ensures

pub returns-clause-unencoded : goal.returns-clause-unencoded
returns-clause-unencoded g c = unencoded_one _ _ _ g.M.Reader.reads _ _ c.fetch_one.ensures.unencoded c.read_one.ensures
