use Rattle.std.proofs.Common.{ap, ◌∙◌}
use Rattle.sqlx_steps.specs.Applies.{number_of}
use Rattle.sqlx_steps.proofs.StepLemmas.{tells_number}
use Rattle.sqlx_steps.proofs.apply.version_of.Goals as goal

pub returns : goal.returns
returns g c = λ n v rows rests tells. c.number_in.ensures ∙ ap number_of c.seen.ensures ∙ tells_number _ _ n v rows rests tells
