use Rattle.sqlx_steps.proofs.TextLemmas.{begin_text}
use Rattle.sqlx_steps.proofs.texts.begin.Goals as goal

pub returns-clause-text : goal.returns-clause-text
returns-clause-text g c = λ n rows rests. begin_text _ _ n rows _ _ _ _ c.run_text.ensures.gives.0 rests c.run_text.ensures.gives.1
