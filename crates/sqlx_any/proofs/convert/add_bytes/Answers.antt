use Rattle.std.proofs.lemmas.Result.{MatchResult-weaker, on_ok_weaker}
use Rattle.sqlx_any.proofs.convert.add_bytes.Goals as goal

pub returns-clause-ok : goal.returns-clause-ok
returns-clause-ok g c = on_ok_weaker c.add.result (λ added. (c.into_vec.result, c.into_vec.ensures, added)) c.add.ensures.ok

pub returns-clause-refused : goal.returns-clause-refused
returns-clause-refused g c =
    MatchResult-weaker c.add.result c.add.ensures.refused (λ _ done. done) (λ fault refused. (c.into_vec.result, c.into_vec.ensures, refused))
