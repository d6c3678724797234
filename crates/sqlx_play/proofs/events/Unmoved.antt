-- An event that makes no mark and changes no bracket and no try.
use Rattle.std.proofs.Common.{◌≡◌, ℕ, List, [], ◌∷◌, ◌++◌, sym, ap, subst, ◌∙◌, append-nil}
use Rattle.mem_store.specs.Store.{Link}
use Rattle.sqlx_pool_marks.specs.declared.mark.Mark.{Mark}
use Rattle.sqlx_pool_lists.specs.Core.{Core}
use Rattle.sqlx_pool_lists.specs.StandsFor.{StandsFor}
use Rattle.sqlx_script.specs.declared.step.Event.{Event}
use Rattle.sqlx_script.specs.declared.reply.Reply.{Reply}
use Rattle.sqlx_play.specs.stage.Scene.{Scene}
use Rattle.sqlx_script_rules.specs.ScriptMarks.{added, marks_of}
use Rattle.sqlx_script_rules.specs.ScriptLevels.{history_after, history_of}
use Rattle.sqlx_script_rules.specs.Tries.{tries_of}
use Rattle.sqlx_play.specs.stage.LinksStand.{LinksStand}
use Rattle.sqlx_play.specs.stage.StageStands.{StageStands}
use Rattle.sqlx_script_rules.proofs.Pairs.{marks_of-push, history_of-push}
use Rattle.sqlx_play.proofs.events.TriesSame.{tried-same}
use Rattle.sqlx_script_rules.specs.Pairs.{Pairs}

-- What an event leaves as it is.
pub record LeavesAll (stage : Scene) (pairs : Pairs) (pair : Event × Reply) : Type 0 where
  pub marks : added stage.pool (marks_of stage.pool pairs) pair ≡ []
  pub history : history_after stage.pool (marks_of stage.pool pairs) (history_of stage.pool pairs) pair ≡ history_of stage.pool pairs
  pub tries : (t : ℕ) → tries_of t (pairs ++ pair ∷ []) ≡ tries_of t pairs

pub stage-unmoved : (stage : Scene) (pairs : Pairs) (pair : Event × Reply) → StageStands stage pairs → LeavesAll stage pairs pair → StageStands stage (pairs ++ pair ∷ [])
stage-unmoved stage pairs pair s leaves =
    let marks = marks_of stage.pool pairs in
    let same : marks ≡ marks_of stage.pool (pairs ++ pair ∷ []) = sym (append-nil marks) ∙ ap (λ (l : List Mark). marks ++ l) (sym leaves.marks) ∙ sym (marks_of-push stage.pool pairs pair) in
    let past : history_of stage.pool pairs ≡ history_of stage.pool (pairs ++ pair ∷ []) = sym leaves.history ∙ sym (history_of-push stage.pool pairs pair) in
    record {
      stands = subst (StandsFor stage.core) same s.stands;
      set_up = s.set_up;
      places = s.places;
      tried = tried-same pairs pair stage.core.tickets leaves.tries s.tried;
      untried = λ t h. leaves.tries t ∙ s.untried t h;
      links = subst (LinksStand stage.core stage.out.store stage.lent.items) past s.links;
    }

-- the same where the core is another with the same value
pub stage-unmoved_core : (stage : Scene) (core : Core Link) (pairs : Pairs) (pair : Event × Reply) → StageStands stage pairs → LeavesAll stage pairs pair → core ≡ stage.core
    → StageStands (record stage { core = core }) (pairs ++ pair ∷ [])
stage-unmoved_core stage core pairs pair s leaves same = subst (λ (c : Core Link). StageStands (record stage { core = c }) (pairs ++ pair ∷ [])) (sym same) (stage-unmoved stage pairs pair s leaves)
