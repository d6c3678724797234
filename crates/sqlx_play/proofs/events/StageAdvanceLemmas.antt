-- Parts of an event, one behind the other, and the stage behind the whole event.
use Rattle.std.proofs.Common.{◌≡◌, ℕ, ◌≤◌, List, [], ◌∷◌, ◌++◌, All, refl, sym, subst, ◌∙◌}
use Rattle.sqlx_pool_marks.specs.declared.mark.Mark.{Mark}
use Rattle.sqlx_pool_lists.specs.Makes.{Makes}
use Rattle.sqlx_pool_core.proofs.Fair.{makes-nothing}
use Rattle.sqlx_pool_core.proofs.Fair.{makes-then}
use Rattle.sqlx_script.specs.declared.pool_line.PoolLine.{PoolLine}
use Rattle.sqlx_script.specs.declared.step.Event.{Event}
use Rattle.sqlx_script.specs.declared.reply.Reply.{Reply}
use Rattle.sqlx_savepoints.specs.Changes.{History}
use Rattle.sqlx_play.specs.stage.Scene.{Scene}
use Rattle.sqlx_script_rules.specs.ScriptMarks.{added, marks_of}
use Rattle.sqlx_script_rules.specs.ScriptLevels.{history_after, history_of}
use Rattle.sqlx_script_rules.specs.Tries.{tries_of}
use Rattle.sqlx_play.specs.stage.StageStands.{IsSetUp, IsTried, StageStands}
use Rattle.sqlx_play.specs.stage.StageAdvance.{IsAt, StageAdvance}
use Rattle.sqlx_play.proofs.events.TriesSame.{tried-same}
use Rattle.sqlx_play.proofs.events.StageAfter.{stage-after}
use Rattle.sqlx_script_rules.specs.Pairs.{Pairs}

-- where a stage that stands for events is
pub at-pairs : (stage : Scene) (pairs : Pairs) → StageStands stage pairs → IsAt stage (marks_of stage.pool pairs) (history_of stage.pool pairs)
at-pairs stage pairs s = record { set_up = s.set_up; places = s.places; stands = s.stands; links = s.links }

-- where it is behind a part
pub at-next : (old new : Scene) (marks made : List Mark) (past past' : History) → IsAt old marks past → StageAdvance old new marks made past' → IsAt new (marks ++ made) past'
at-next old new marks made past past' at c = record {
  set_up = subst (λ (p : PoolLine). IsSetUp p new.core.options) (sym c.pool) (subst (IsSetUp old.pool) (sym c.options) at.set_up);
  places = c.places;
  stands = c.makes.stands;
  links = c.links;
}

-- two parts
pub comes-then : (old mid new : Scene) (marks one two : List Mark) (past past' : History) → StageAdvance old mid marks one past → StageAdvance mid new (marks ++ one) two past' → StageAdvance old new marks (one ++ two) past'
comes-then old mid new marks one two past past' a b = record {
  pool = b.pool ∙ a.pool;
  makes = makes-then old.core.options.max_connections marks one two mid.core new.core a.makes (subst (λ (o : _). Makes o.max_connections (marks ++ one) two new.core) a.options b.makes);
  options = b.options ∙ a.options;
  places = b.places;
  tickets = b.tickets ∙ a.tickets;
  next = b.next ∙ a.next;
  links = b.links;
}

-- a part that makes nothing
pub comes-nowhere : (stage : Scene) (marks : List Mark) (past : History) → IsAt stage marks past → StageAdvance stage stage marks [] past
comes-nowhere stage marks past at = record {
  pool = refl;
  makes = makes-nothing stage.core.options.max_connections marks stage.core at.stands;
  options = refl;
  places = at.places;
  tickets = refl;
  next = refl;
  links = at.links;
}

-- the stage behind the whole event
pub comes-stands : (old new : Scene) (pairs : Pairs) (pair : Event × Reply) → StageStands old pairs → ((t : ℕ) → tries_of t (pairs ++ pair ∷ []) ≡ tries_of t pairs)
    → StageAdvance old new (marks_of old.pool pairs) (added old.pool (marks_of old.pool pairs) pair) (history_after old.pool (marks_of old.pool pairs) (history_of old.pool pairs) pair)
    → StageStands new (pairs ++ pair ∷ [])
comes-stands old new pairs pair s tries c = stage-after old new pairs pair s (record {
  pool = c.pool;
  makes = c.makes;
  options = c.options;
  places = c.places;
  tried = subst (All (IsTried (pairs ++ pair ∷ []))) (sym c.tickets) (tried-same pairs pair old.core.tickets tries s.tried);
  untried = λ t h. tries t ∙ s.untried t (subst (λ (n : ℕ). n ≤ t) c.next h);
  links = c.links;
})
