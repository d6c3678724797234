use Rattle.sqlx_script_rules.specs.Answer.{answer}
use Rattle.sqlx_play.proofs.asks.CancelAndTry.{cancel-reply, cancelled-stands, uncancelled-stands}
use Rattle.sqlx_play.specs.stage.Scene.{scene_of}
use Rattle.sqlx_play.proofs.stage.requests.cancel.cancel.Goals as goal

pub returns-in-true-clause-ok : goal.returns-in-true-clause-ok
unfolding answer
returns-in-true-clause-ok c pairs s = (
  cancel-reply (scene_of c.args.stage.now) pairs c.args.client c.args.ticket _ s c.in-true.ensures.answer,
  cancelled-stands (scene_of c.args.stage.now) _ pairs c.args.moment c.args.client c.args.ticket s c.in-true.ensures.becomes (c.in-true.ensures.makes _ s.stands),
)

pub returns-in-false-clause-ok : goal.returns-in-false-clause-ok
unfolding answer
returns-in-false-clause-ok c pairs s = (
  cancel-reply (scene_of c.args.stage.now) pairs c.args.client c.args.ticket _ s c.in-false.ensures.answer,
  uncancelled-stands (scene_of c.args.stage.now) _ pairs c.args.moment c.args.client c.args.ticket s c.in-false.ensures.becomes,
)
