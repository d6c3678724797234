use Rattle.sqlx_script_rules.specs.Answer.{answer}
use Rattle.sqlx_play.proofs.upkeep.Minimum.{plays-min}
use Rattle.sqlx_play.specs.stage.Scene.{scene_of}
use Rattle.sqlx_play.proofs.stage.upkeep.min.min.Goals as goal

pub returns-clause-ok : goal.returns-clause-ok
unfolding answer
returns-clause-ok c pairs s = plays-min (scene_of c.args.stage.now) _ pairs c.args.moment c.args.opens _ s c.in_ok-opened.ensures.ok
