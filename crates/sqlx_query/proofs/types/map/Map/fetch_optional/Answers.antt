use Rattle.sqlx_query_rows.specs.Mapping.{made_by}
use Rattle.sqlx_query.proofs.UnencodedLemmas.{unencoded_optional}
use Rattle.sqlx_query.proofs.types.map.Map.fetch_optional.Goals as goal

pub returns-clause-unencoded : goal.returns-clause-unencoded
returns-clause-unencoded g c = unencoded_optional _ _ _ (made_by g.F.Mapper.maps c.args.self.mapper) _ _ c.fetch_optional.ensures.unencoded c.map_optional.ensures
