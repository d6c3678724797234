use Rattle.std.proofs.Common.{◌∷◌, [], ◌++◌, subst, ◌∙◌, rules}
use Rattle.sqlx_play.specs.events.Reaps.{ReapsOne}
use Rattle.sqlx_play.proofs.upkeep.ReapsLemmas.{reaps-then, reaps-whole}
use Rattle.sqlx_play.specs.stage.Scene.{scene_of}
use Rattle.sqlx_play.proofs.stage.upkeep.reap.reap_all.Goals as goal

pub loop-moment-preserved : goal.loop-moment-preserved
loop-moment-preserved c =
    let one = subst (ReapsOne _ (scene_of c.reap_one.new.stage) c.args.moment.0) c.loop-moment-test.true c.reap_one.ensures.reaps in
    record {
      reaps = (c.loop-moment.invariant.reaps.0 ++ one.0 ∷ [], reaps-then (scene_of c.args.stage.now) _ (scene_of c.reap_one.new.stage) c.args.moment.0 c.loop-moment.invariant.reaps.0 (one.0 ∷ []) c.loop-moment.invariant.reaps.1 one.1);
      frame = search rules;
      runs = c.reap_one.ensures.runs ∙ c.loop-moment.invariant.runs;
    }

pub returns-clause-reaps : goal.returns-clause-reaps
returns-clause-reaps c = reaps-whole (scene_of c.args.stage.now) _ (scene_of c.reap_one.new.stage) c.args.moment.0 _ _ c.loop-moment.invariant.reaps
    (subst (ReapsOne _ (scene_of c.reap_one.new.stage) c.args.moment.0) c.loop-moment-test.false c.reap_one.ensures.reaps) c.num_idle-before.ensures.own c.num_idle.ensures.own
