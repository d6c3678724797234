use Rattle.sqlx_script.specs.Names.{text_of}
use Rattle.sqlx_script.proofs.NamedLines.{front}
use Rattle.sqlx_script.proofs.kinds.behind_name.Goals as goal

pub returns-in_err-name-clause-none : goal.returns-in_err-name-clause-none
returns-in_err-name-clause-none c =
    rw c.from_residual.ensures (λ name w ws e. let behind = front c.args.text.now (text_of name) w ws c.requires e in c.in_err-name.ensures.none name behind.0 behind.1)
