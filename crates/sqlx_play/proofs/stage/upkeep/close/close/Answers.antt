use Rattle.std.proofs.Common.{refl, ◌∙◌}
use Rattle.sqlx_play.specs.stage.Scene.{Scene, scene_of}
use Rattle.sqlx_script_rules.specs.Answer.{answer}
use Rattle.sqlx_play.proofs.upkeep.ClosesLemmas.{close-told, close-stands}
use Rattle.sqlx_play.proofs.stage.upkeep.close.close.Goals as goal

pub returns-clause-ok : goal.returns-clause-ok
unfolding answer
returns-clause-ok c pairs s =
    let new : Scene = record (scene_of c.args.stage.now) { core = c.close-idle.new.self.pool; out = record c.args.stage.now.out { store = c.close_all.new.store } } in
    let makes = c.close-idle.ensures.makes _ s.stands in (
      close-told (scene_of c.args.stage.now) new _ pairs c.args.moment _ s c.bounds.ensures.numbered c.close-idle.ensures.answer c.close-idle.ensures.becomes makes c.close_all.ensures.store refl refl (c.len-count.ensures ∙ c.close-idle.result.ok.0),
      close-stands (scene_of c.args.stage.now) new _ pairs c.args.moment _ s c.bounds.ensures.numbered c.close-idle.ensures.answer c.close-idle.ensures.becomes makes c.close_all.ensures.store refl refl (c.len-count.ensures ∙ c.close-idle.result.ok.0),
    )
