use Rattle.sqlx_query.proofs.CauseLemmas.{cause_of_all}
use Rattle.sqlx_query.proofs.UnencodedLemmas.{unencoded_all}
use Rattle.sqlx_query.proofs.types.map.Map.fetch_all.Goals as goal

pub returns-clause-cause : goal.returns-clause-cause
returns-clause-cause g c = cause_of_all _ _ _ (λ all. all.items) g.F.Mapper.maps _ _ _ c.fetch.ensures.causes c.all_rows.ensures

pub returns-clause-unencoded : goal.returns-clause-unencoded
returns-clause-unencoded g c = unencoded_all _ _ _ (λ all. all.items) g.F.Mapper.maps _ _ _ c.fetch.ensures.unencoded c.all_rows.ensures
