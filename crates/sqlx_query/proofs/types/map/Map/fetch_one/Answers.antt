use Rattle.sqlx_query_rows.specs.Mapping.{RefusedBy, made_by}
use Rattle.sqlx_query.proofs.CauseLemmas.{cause_of_one}
use Rattle.sqlx_query.proofs.UnencodedLemmas.{unencoded_one}
use Rattle.sqlx_query.proofs.types.map.Map.fetch_one.Goals as goal

pub returns-clause-cause : goal.returns-clause-cause
returns-clause-cause g c = cause_of_one (made_by g.F.Mapper.maps c.args.self.mapper) (RefusedBy g.F.Mapper.maps) _ (λ row e made. (c.args.self.mapper, row, made.0, made.1)) _ _ c.fetch_one.ensures.cause c.map_one.ensures

pub returns-clause-unencoded : goal.returns-clause-unencoded
returns-clause-unencoded g c = unencoded_one _ _ _ (made_by g.F.Mapper.maps c.args.self.mapper) _ _ c.fetch_one.ensures.unencoded c.map_one.ensures
