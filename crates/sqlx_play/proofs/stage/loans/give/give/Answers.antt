use Rattle.std.proofs.Common.{ℕ, subst}
use Rattle.sqlx_script_rules.specs.Answer.{answer}
use Rattle.sqlx_play.specs.declared.stage.loans.give.Returned.{Returned}
use Rattle.sqlx_play.specs.declared.stage.loans.give.Returned.TheVariants as word
use Rattle.sqlx_play.specs.events.GivesBack.{GivesBack}
use Rattle.sqlx_play.proofs.leaving.PlaysGive.{plays-kept, plays-not_held, plays-closed}
use Rattle.sqlx_play.specs.stage.Scene.{scene_of}
use Rattle.sqlx_play.proofs.stage.loans.give.give.Goals as goal

pub returns-in-Kept-clause-ok : goal.returns-in-Kept-clause-ok
unfolding answer
returns-in-Kept-clause-ok c pairs s =
    plays-kept (scene_of c.args.stage.now) pairs c.args.moment c.args.client c.args.connection c.args.opens c.args.answers s (scene_of c.take_back.new.stage)
    (subst (λ (n : ℕ). GivesBack (scene_of c.args.stage.now) (scene_of c.take_back.new.stage) c.args.answers c.args.moment.0 c.args.client n word.Kept) c.from.ensures
    (subst (λ (r : Returned). GivesBack (scene_of c.args.stage.now) (scene_of c.take_back.new.stage) c.args.answers c.args.moment.0 c.args.client c.from.result r) c.in-Kept.is c.take_back.ensures.ok))

pub returns-in-NotHeld-clause-ok : goal.returns-in-NotHeld-clause-ok
unfolding answer
returns-in-NotHeld-clause-ok c pairs s =
    plays-not_held (scene_of c.args.stage.now) pairs c.args.moment c.args.client c.args.connection c.args.opens c.args.answers s (scene_of c.take_back.new.stage)
    (subst (λ (n : ℕ). GivesBack (scene_of c.args.stage.now) (scene_of c.take_back.new.stage) c.args.answers c.args.moment.0 c.args.client n word.NotHeld) c.from.ensures
    (subst (λ (r : Returned). GivesBack (scene_of c.args.stage.now) (scene_of c.take_back.new.stage) c.args.answers c.args.moment.0 c.args.client c.from.result r) c.in-NotHeld.is c.take_back.ensures.ok))

pub returns-in_ok-opened-in-Closed-clause-ok : goal.returns-in_ok-opened-in-Closed-clause-ok
unfolding answer
returns-in_ok-opened-in-Closed-clause-ok c pairs s =
    plays-closed (scene_of c.args.stage.now) pairs c.args.moment c.args.client c.args.connection c.args.opens c.args.answers s (scene_of c.take_back.new.stage) (scene_of c.fill.new.stage) c.in_ok-opened-in-Closed.opened
    (subst (λ (n : ℕ). GivesBack (scene_of c.args.stage.now) (scene_of c.take_back.new.stage) c.args.answers c.args.moment.0 c.args.client n word.Closed) c.from.ensures
    (subst (λ (r : Returned). GivesBack (scene_of c.args.stage.now) (scene_of c.take_back.new.stage) c.args.answers c.args.moment.0 c.args.client c.from.result r) c.in-Closed.is c.take_back.ensures.ok))
    c.in_ok-opened-in-Closed.ensures.ok
