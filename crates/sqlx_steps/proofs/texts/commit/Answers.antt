use Rattle.sqlx_steps.proofs.TextLemmas.{commit_text}
use Rattle.sqlx_steps.proofs.texts.commit.Goals as goal

pub returns-clause-text : goal.returns-clause-text
returns-clause-text g c = λ n before rows within. commit_text _ _ n before rows _ _ _ _ c.run_text.ensures.gives.0 within c.run_text.ensures.gives.1
