use Rattle.std.proofs.Common.{◌∙◌, inl}
use Rattle.std.proofs.lemmas.Result.{MatchResult-weaker, on_ok_weaker}
use Rattle.sqlx_any.proofs.convert.add_text.Goals as goal

pub returns-in-Ok-clause-ok : goal.returns-in-Ok-clause-ok
returns-in-Ok-clause-ok g c = on_ok_weaker c.add.result (λ added. (c.in-Ok.text, c.in-Ok.ensures.ok ∙ c.as_str.ensures, added)) c.add.ensures.ok

pub returns-in-Ok-clause-refused : goal.returns-in-Ok-clause-refused
returns-in-Ok-clause-refused g c =
    MatchResult-weaker c.add.result c.add.ensures.refused (λ _ done. done) (λ fault refused. inl (c.in-Ok.text, c.in-Ok.ensures.ok ∙ c.as_str.ensures, refused))
