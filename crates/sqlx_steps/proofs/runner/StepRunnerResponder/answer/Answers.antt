use Rattle.std.proofs.Common.{[], ◌∷◌, ◌++◌, ap, subst, ◌∙◌}
use Rattle.sqlx_steps_rules.specs.declared.reply.Reply.{Reply}
use Rattle.sqlx_steps_rules.specs.Texts.{text_of}
use Rattle.sqlx_steps.specs.Stands.{StandsFor}
use Rattle.sqlx_steps.proofs.Standing.{ready}
use Rattle.sqlx_steps.proofs.runner.StepRunnerResponder.answer.Goals as goal

pub reply_to-requires : goal.reply_to-requires
reply_to-requires c = ready _ _ c.requires

pub returns : goal.returns
returns c = λ first pairs s few.
    let so = c.in_ok-reply.ensures pairs s in
    (c.fill_line.ensures ∙ ap text_of so.due, subst (λ (r : Reply). StandsFor c.reply_to.new.self (pairs ++ (c.args.event.now, r) ∷ [])) so.due so.stands)
