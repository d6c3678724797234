use Rattle.std.proofs.Common.{ap, ◌∙◌}
use Rattle.sqlx_script.specs.declared.reply.Reply.{Reply}
use Rattle.sqlx_lines.specs.Words.{line_of}
use Rattle.sqlx_script.specs.Texts.{reply_text}
use Rattle.sqlx_play.specs.stage.Scene.{scene_of}
use Rattle.sqlx_play.proofs.scripts.Standing.{due_few, stands_after}
use Rattle.sqlx_play.proofs.pool_stage.PoolStageResponder.answer.Goals as goal

pub answer-requires-clause-few : goal.answer-requires-clause-few
answer-requires-clause-few g c = due_few (scene_of c.args.self.now.stage) c.args.self.now.last c.args.event.now c.requires

pub returns : goal.returns
returns g c = λ first pairs s few.
    let after = stands_after _ _ c.args.self.now.last c.args.event.now c.in_ok-reply.reply first pairs s few c.in_ok-reply.ensures.frame.frame c.in_ok-reply.ensures.frame.runs c.in_ok-reply.ensures.ok in
    (c.fill_line.ensures ∙ ap (λ (r : Reply). line_of (reply_text r)) after.0, after.1)
