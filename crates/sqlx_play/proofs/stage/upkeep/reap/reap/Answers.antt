use Rattle.sqlx_script_rules.specs.Answer.{answer}
use Rattle.sqlx_play.proofs.upkeep.ReapsLemmas.{plays-reap}
use Rattle.sqlx_play.specs.stage.Scene.{scene_of}
use Rattle.sqlx_play.proofs.stage.upkeep.reap.reap.Goals as goal

pub returns-clause-ok : goal.returns-clause-ok
unfolding answer
returns-clause-ok c pairs s = plays-reap (scene_of c.args.stage.now) _ _ pairs c.args.moment c.args.opens _ _ s c.reap_all-reaped.ensures.frame.pool c.reap_all-reaped.ensures.reaps c.in_ok-opened.ensures.ok
