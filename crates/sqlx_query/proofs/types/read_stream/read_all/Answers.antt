use Rattle.sqlx_query.proofs.ReadLemmas.{reads_all}
use Rattle.sqlx_query.proofs.types.read_stream.read_all.Goals as goal

pub returns : goal.returns
returns g c = reads_all (λ all. all.items) g.M.Reader.reads _ _ _ (rw c.new.ensures.rows at c.all_rows.ensures)
