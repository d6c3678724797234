use Rattle.std.specs.Prelude.{⊤}
use Rattle.sqlx_query_rows.specs.Mapping.{alike}
use Rattle.sqlx_query.proofs.CauseLemmas.{cause_of_reads}
use Rattle.sqlx_query.proofs.UnencodedLemmas.{unencoded_all}
use Rattle.sqlx_query.proofs.types.read_query.ReadQuery.fetch_all.Goals as goal

pub returns-clause-cause : goal.returns-clause-cause
returns-clause-cause g c = cause_of_reads _ _ _ (λ all. all.items) g.M.Reader.reads _ _ c.fetch.ensures.causes c.read_all.ensures

pub returns-clause-unencoded : goal.returns-clause-unencoded
returns-clause-unencoded g c = unencoded_all _ _ _ (λ all. all.items) (alike {M = ⊤} g.M.Reader.reads) _ tt _ c.fetch.ensures.unencoded c.read_all.ensures
