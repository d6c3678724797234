use Rattle.sqlx_pool_lists.specs.declared.steps.CloseState.TheVariants.{NotShut, Closing, Closed}
use Rattle.sqlx_script_rules.specs.Answer.{answer}
use Rattle.sqlx_script_rules.specs.ScriptMarks.{marks_of}
use Rattle.sqlx_play.proofs.upkeep.CloseStates.{state-told, asked-state}
use Rattle.sqlx_play.specs.stage.Scene.{scene_of}
use Rattle.sqlx_play.proofs.stage.upkeep.closed.closed.Goals as goal

pub returns-in-NotShut : goal.returns-in-NotShut
unfolding answer
returns-in-NotShut c pairs s = (state-told (marks_of c.args.stage.now.pool pairs) NotShut (c.in-NotShut.ensures.marks _ s.stands), asked-state (scene_of c.args.stage.now) pairs c.args.moment _ s)

pub returns-in-Closing : goal.returns-in-Closing
unfolding answer
returns-in-Closing c pairs s = (state-told (marks_of c.args.stage.now.pool pairs) Closing (c.in-Closing.ensures.marks _ s.stands), asked-state (scene_of c.args.stage.now) pairs c.args.moment _ s)

pub returns-in-Closed : goal.returns-in-Closed
unfolding answer
returns-in-Closed c pairs s = (state-told (marks_of c.args.stage.now.pool pairs) Closed (c.in-Closed.ensures.marks _ s.stands), asked-state (scene_of c.args.stage.now) pairs c.args.moment _ s)
