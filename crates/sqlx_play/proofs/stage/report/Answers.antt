use Rattle.std.proofs.Common.{◌∙◌}
use Rattle.sqlx_script_rules.specs.Answer.{report_of}
use Rattle.sqlx_script_rules.specs.ScriptMarks.{marks_of}
use Rattle.sqlx_play.proofs.events.Stages.{report-stands}
use Rattle.sqlx_play.proofs.stage.report.Goals as goal

pub returns : goal.returns
unfolding report_of
returns c pairs s =
    (λ i. record { held = c.num_held.ensures.own i; idle = c.num_idle.ensures.own i; leaked = (c.from.ensures ∙ c.num_leaked.ensures.own) i; waiting = c.num_tickets.ensures.own i })
    ∙ report-stands c.args.stage.now.core.pool (marks_of c.args.stage.now.pool pairs) s.stands
