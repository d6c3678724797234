-- The stage behind one more event and its reply, from what the event made of its parts.
use Rattle.std.proofs.Common.{◌≡◌, ℕ, ◌≤◌, [], ◌∷◌, ◌++◌, None, All, sym, ap, subst, ◌∙◌}
use Rattle.sqlx_pool_lists.specs.StandsFor.{StandsFor}
use Rattle.sqlx_pool_lists.specs.Makes.{Makes}
use Rattle.sqlx_script.specs.declared.pool_line.PoolLine.{PoolLine}
use Rattle.sqlx_script.specs.declared.step.Event.{Event}
use Rattle.sqlx_script.specs.declared.reply.Reply.{Reply}
use Rattle.sqlx_play.specs.stage.Scene.{Scene}
use Rattle.sqlx_script_rules.specs.ScriptMarks.{added, marks_of}
use Rattle.sqlx_script_rules.specs.ScriptLevels.{history_after, history_of}
use Rattle.sqlx_script_rules.specs.Tries.{tries_of}
use Rattle.sqlx_play.specs.stage.LinksStand.{LinksStand}
use Rattle.sqlx_play.specs.stage.StageStands.{IsSetUp, IsTried, StageStands}
use Rattle.sqlx_script_rules.proofs.Pairs.{marks_of-push, history_of-push}
use Rattle.sqlx_script_rules.specs.Pairs.{Pairs}

-- What an event makes of a stage that stands for some pairs.
pub record StageMoves (old new : Scene) (pairs : Pairs) (pair : Event × Reply) : Type 0 where
  pub pool : new.pool ≡ old.pool
  pub makes : Makes old.core.options.max_connections (marks_of old.pool pairs) (added old.pool (marks_of old.pool pairs) pair) new.core
  pub options : new.core.options ≡ old.core.options
  pub places : new.core.places ≡ 0
  pub tried : All (IsTried (pairs ++ pair ∷ [])) new.core.tickets
  pub untried : (t : ℕ) → new.core.next_ticket ≤ t → tries_of t (pairs ++ pair ∷ []) ≡ None
  pub links : LinksStand new.core new.out.store new.lent.items (history_after old.pool (marks_of old.pool pairs) (history_of old.pool pairs) pair)

pub stage-after : (old new : Scene) (pairs : Pairs) (pair : Event × Reply) → StageStands old pairs → StageMoves old new pairs pair → StageStands new (pairs ++ pair ∷ [])
stage-after old new pairs pair s m =
    let marks = marks_of old.pool pairs in
    let made = added old.pool marks pair in
    let same : marks ++ made ≡ marks_of new.pool (pairs ++ pair ∷ []) = sym (marks_of-push old.pool pairs pair) ∙ ap (λ (p : PoolLine). marks_of p (pairs ++ pair ∷ [])) (sym m.pool) in
    let past : history_after old.pool marks (history_of old.pool pairs) pair ≡ history_of new.pool (pairs ++ pair ∷ []) = sym (history_of-push old.pool pairs pair) ∙ ap (λ (p : PoolLine). history_of p (pairs ++ pair ∷ [])) (sym m.pool) in
    record {
      stands = subst (StandsFor new.core) same m.makes.stands;
      set_up = subst (λ (p : PoolLine). IsSetUp p new.core.options) (sym m.pool) (subst (IsSetUp old.pool) (sym m.options) s.set_up);
      places = m.places;
      tried = m.tried;
      untried = m.untried;
      links = subst (LinksStand new.core new.out.store new.lent.items) past m.links;
    }
