-- What the generic player says of the pool's stage is what is promised of playing a script of the pool.
use Rattle.std.proofs.Common.{◌≡◌, ℕ, ℤ, arith, List, [], ◌∷◌, ◌++◌, Option, refl, sym, ap, subst, ◌∙◌}
use Rattle.std.specs.FinMap.{get, get-empty}
use Rattle.std.specs.Ordering.{int_cmp}
use Rattle.sqlx_script.specs.declared.pool_line.PoolLine.{PoolLine}
use Rattle.sqlx_script.specs.declared.step.Event.{Event}
use Rattle.sqlx_pool_lists.specs.Core.{Core}
use Rattle.sqlx_pool_lists.specs.StandsFor.{StandsFor}
use Rattle.mem_store.specs.Store.{Store, Link}
use Rattle.sqlx_savepoints.specs.Rows.{Rows, seen, sees}
use Rattle.sqlx_savepoints.specs.Brackets.{value}
use Rattle.sqlx_savepoints.specs.Links.{Link as Linked, linked_after}
use Rattle.sqlx_savepoints.proofs.Linking.{savepoints_read_alike}
use Rattle.sqlx_script_rules.specs.Answer.{answer}
use Rattle.sqlx_script_rules.specs.Headline.{HoldsHeadline}
use Rattle.sqlx_script_rules.specs.Pairs.{Pairs}
use Rattle.sqlx_script_rules.specs.ScriptMarks.{marks_of}
use Rattle.sqlx_script_rules.specs.ScriptLevels.{history_of}
use Rattle.sqlx_script_rules.proofs.Holds.{headline-holds}
use Rattle.sqlx_play.specs.stage.Scene.{Scene}
use Rattle.sqlx_play.specs.stage.StageStands.{IsSetUp, StageStands}
use Rattle.sqlx_player.specs.Output.{pairs_after, pairs_of}
use Rattle.sqlx_player.specs.Plays as player
use Rattle.sqlx_script_rules.specs.Output.{pool_language, pool_rules}
use Rattle.sqlx_play.specs.StandsAt.{StandsAt}
use Rattle.sqlx_play.specs.Plays.{Plays}

-- the rows of the store are what a connection that was never opened sees
rows_seen : (stage : Scene) (pairs : Pairs) → StageStands stage pairs → (key : ℤ) → get stage.out.store.rows key ≡ value stage.core.next_conn key (history_of stage.pool pairs)
rows_seen stage pairs s key =
    let history = history_of stage.pool pairs in
    let link = s.links.unopened stage.core.next_conn (omega arith) in
    ap (λ (r : Rows). get r key) s.links.rows
    ∙ ap (λ (o : Option (Option ℤ)). seen o (get (linked_after history).rows key)) (sym (get-empty {X = Option ℤ} int_cmp key))
    ∙ sym (ap (λ (l : Linked). sees l.own (linked_after history).rows key) link)
    ∙ (savepoints_read_alike history s.links.accepted).values stage.core.next_conn key

pub plays : (bytes : List ℕ) (before now : Option (List ℕ)) (stage : Scene) (last : ℕ) → player.Plays pool_language (StandsAt stage last) bytes before now → Plays bytes before now stage.core stage.out.store
plays bytes before now stage last p =
    let pool = p.script.first in
    let pairs = pairs_of pool_rules p.script in
    let s = p.stands in
    record {
      script = p.script;
      is_script = p.is_script;
      written = p.written;
      headline = headline-holds pool s.tries p.script.lines.events;
      set_up = subst (λ (l : PoolLine). IsSetUp l stage.core.options) s.set_up s.stands.set_up;
      places = s.stands.places;
      core_after = subst (λ (l : PoolLine). StandsFor stage.core (marks_of l pairs)) s.set_up s.stands.stands;
      rows_after = subst (λ (l : PoolLine). (key : ℤ) → get stage.out.store.rows key ≡ value stage.core.next_conn key (history_of l pairs)) s.set_up (rows_seen stage pairs s.stands);
      runs_after = s.runs;
    }

-- and so it is of what the stage leaves
pub left_plays : (bytes : List ℕ) (before now : Option (List ℕ)) (core core' : Core Link) (store store' : Store) → Plays bytes before now core store → core' ≡ core → store' ≡ store → Plays bytes before now core' store'
left_plays bytes before now core core' store store' p c s =
    subst (λ (k : Core Link). Plays bytes before now k store') (sym c) (subst (λ (t : Store). Plays bytes before now core t) (sym s) p)
