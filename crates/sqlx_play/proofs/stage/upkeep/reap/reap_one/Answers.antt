use Rattle.std.proofs.Math.Nat.{max-eq_right}
use Rattle.sqlx_play.proofs.upkeep.ReapsLemmas.{reaps-none, reaps-one}
use Rattle.sqlx_play.specs.stage.Scene.{scene_of}
use Rattle.sqlx_play.proofs.stage.upkeep.reap.reap_one.Goals as goal

pub returns-in-Some-clause-reaps : goal.returns-in-Some-clause-reaps
returns-in-Some-clause-reaps c =
    reaps-one (scene_of c.args.stage.now) _ _ _ c.args.moment.0 _ (max-eq_right c.requires.in_order) c.bounds.ensures.numbered c.in-Some.ensures.answer c.in-Some.ensures.becomes c.in-Some.ensures.makes c.close.ensures

pub returns-in-None-clause-reaps : goal.returns-in-None-clause-reaps
returns-in-None-clause-reaps c = reaps-none (scene_of c.args.stage.now) _ c.args.moment.0 _ (max-eq_right c.requires.in_order) c.in-None.ensures.answer c.in-None.ensures.becomes
