use Rattle.std.proofs.Common.{◌≡◌, Bool, max, refl, sym, ap, subst, ◌∙◌}
use Rattle.std.proofs.Math.Nat.{max-eq_right}
use Rattle.sqlx_pool_lists.specs.Core.{loan_of}
use Rattle.sqlx_pool_core.specs.Logs.{Logs}
use Rattle.sqlx_pool_core.specs.ReturnSteps.{give_answer, give_marks, core_after_give}
use Rattle.sqlx_pool_lists.specs.declared.steps.Given.{Given}
use Rattle.sqlx_pool_lists.specs.declared.steps.Given.TheVariants as given
use Rattle.mem_store.specs.Store.{Link}
use Rattle.sqlx_play.proofs.links.LinksGone.{closed_in}
use Rattle.sqlx_play.proofs.leaving.GivesBackLemmas.{returns-unowned, returns-unlent, returns-kept, returns-closed, returns-owned}
use Rattle.sqlx_play.proofs.leaving.GivenBack.{came, given_store, may_rest, was-kept, was-closed, was-not_held}
use Rattle.sqlx_play.specs.stage.Scene.{scene_of}
use Rattle.sqlx_play.proofs.stage.loans.give.take_back.Goals as goal

pub returns-then-not-owns-clause-ok : goal.returns-then-not-owns-clause-ok
returns-then-not-owns-clause-ok c =
    returns-unowned (scene_of c.args.stage.now) c.args.answers c.args.moment.0 c.args.client c.args.conn c.bounds.ensures.numbered (sym c.owns.ensures.owns ∙ c.if-not-owns.true)

pub returns-in_default-clause-ok : goal.returns-in_default-clause-ok
returns-in_default-clause-ok c =
    returns-unlent (scene_of c.args.stage.now) c.args.answers c.args.moment.0 c.args.client c.args.conn c.bounds.ensures.numbered
    _ refl refl refl c.take.ensures.rest (sym c.take.ensures.found ∙ c.in_default.is)

pub returns-in-Kept-clause-ok : goal.returns-in-Kept-clause-ok
returns-in-Kept-clause-ok c = λ marks past at.
    let old = (scene_of c.args.stage.now) in
    let l = c.in-Some.lent in
    let m = max old.core.last c.args.moment.0 in
    let w = came c.args.client m c.args.answers l old.core c.give_with.new.self.pool c.begin_give.new.self c.give_with.new.out c.give_with.result c.begin_give.ensures.letters c.begin_give.ensures.left (loan_of c.args.client l.id old.core.held) refl c.give_with.ensures.gives in
    let made : w.made ≡ given.Kept = was-kept w.made (sym c.in-Kept.is ∙ w.word) in
    returns-kept old c.args.answers c.args.moment.0 c.args.client c.args.conn c.bounds.ensures.numbered c.give_with.new.self.pool l c.requires.in_order (sym c.take.ensures.found ∙ c.in-Some.is)
    _ m (max-eq_right c.requires.in_order) refl refl (w.store ∙ ap (λ (g : Given Link). given_store g c.begin_give.new.self.store) made ∙ c.begin_give.ensures.store) c.take.ensures.rest
    (sym made ∙ w.answer ∙ ap (λ (hook : Bool). give_answer old.core.options old.core.shut m (may_rest hook c.args.answers l.raw.depth) (loan_of c.args.client l.id old.core.held) l) at.set_up.after_release)
    (subst (λ (g : Given Link). Logs old.core (give_marks l.id m g) c.give_with.new.self.pool) made w.makes)
    (w.becomes ∙ ap (λ (g : Given Link). core_after_give (loan_of c.args.client l.id old.core.held) l m g old.core) made) marks past at

pub returns-in-Closed-clause-ok : goal.returns-in-Closed-clause-ok
returns-in-Closed-clause-ok c = λ marks past at.
    let old = (scene_of c.args.stage.now) in
    let l = c.in-Some.lent in
    let m = max old.core.last c.args.moment.0 in
    let w = came c.args.client m c.args.answers l old.core c.give_with.new.self.pool c.begin_give.new.self c.give_with.new.out c.give_with.result c.begin_give.ensures.letters c.begin_give.ensures.left (loan_of c.args.client l.id old.core.held) refl c.give_with.ensures.gives in
    let was = was-closed w.made (sym c.in-Closed.is ∙ w.word) in
    let raw = was.0 in
    let made : w.made ≡ given.Closed raw = was.1 in
    returns-closed old c.args.answers c.args.moment.0 c.args.client c.args.conn c.bounds.ensures.numbered c.give_with.new.self.pool l c.requires.in_order (sym c.take.ensures.found ∙ c.in-Some.is)
    _ m raw (max-eq_right c.requires.in_order) refl refl (w.store ∙ ap (λ (g : Given Link). given_store g c.begin_give.new.self.store) made ∙ ap (closed_in raw.depth) c.begin_give.ensures.store) c.take.ensures.rest
    (sym made ∙ w.answer ∙ ap (λ (hook : Bool). give_answer old.core.options old.core.shut m (may_rest hook c.args.answers l.raw.depth) (loan_of c.args.client l.id old.core.held) l) at.set_up.after_release)
    (subst (λ (g : Given Link). Logs old.core (give_marks l.id m g) c.give_with.new.self.pool) made w.makes)
    (w.becomes ∙ ap (λ (g : Given Link). core_after_give (loan_of c.args.client l.id old.core.held) l m g old.core) made) marks past at

pub unreachable-requires : goal.unreachable-requires
unreachable-requires c =
    let old = (scene_of c.args.stage.now) in
    let l = c.in-Some.lent in
    let m = max old.core.last c.args.moment.0 in
    let raw = c.in-NotHeld.field-0 in
    let w = came c.args.client m c.args.answers l old.core c.give_with.new.self.pool c.begin_give.new.self c.give_with.new.out c.give_with.result c.begin_give.ensures.letters c.begin_give.ensures.left (loan_of c.args.client l.id old.core.held) refl c.give_with.ensures.gives in
    let made : w.made ≡ given.NotHeld raw = was-not_held raw w.made (sym c.in-NotHeld.is ∙ w.word) in
    returns-owned old c.args.answers c.args.moment.0 c.args.client c.args.conn c.bounds.ensures.numbered c.give_with.new.self.pool l c.requires.in_order (sym c.take.ensures.found ∙ c.in-Some.is)
    m (may_rest old.core.options.after_release c.args.answers l.raw.depth) raw (sym c.owns.ensures.owns ∙ c.if-not-owns.false) (sym made ∙ w.answer)
