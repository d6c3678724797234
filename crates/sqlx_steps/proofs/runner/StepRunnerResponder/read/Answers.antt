use Rattle.std.proofs.Common.{length, Bool, ap, ◌∙◌, ℕ}
use Rattle.sqlx_lines.specs.Words.{first_line, behind_line}
use Rattle.sqlx_lines.specs.Rows.{with_behind}
use Rattle.sqlx_player.specs.Language.{events_of}
use Rattle.sqlx_steps_rules.specs.Grammar.{event_at}
use Rattle.sqlx_steps_rules.specs.Rules.{steps_of}
use Rattle.sqlx_steps.proofs.runner.StepRunnerResponder.read.Goals as goal

pub returns : goal.returns
returns c = λ first pairs s.
    c.read_event.ensures
    ∙ ap (λ (d : ℕ). with_behind (behind_line c.args.text.now) (event_at d c.args.self.now.ended (first_line c.args.text.now))) (c.len.ensures ∙ ap length s.steps)
    ∙ ap (λ (e : Bool). with_behind (behind_line c.args.text.now) (event_at (length (steps_of (events_of pairs))) e (first_line c.args.text.now))) s.ended
