use Rattle.std.proofs.Common.{ap, ◌∙◌}
use Rattle.sqlx_steps_rules.specs.Texts.{version_text}
use Rattle.sqlx_steps.proofs.runner.StepRunnerResponder.close.Goals as goal

pub returns : goal.returns
returns c = λ first pairs s. (c.fill_version.ensures ∙ ap version_text (c.version.ensures ∙ s.version), s)
