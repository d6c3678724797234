-- What reaping, the minimum and a close answer, by the marks that the core stands for.
use Rattle.std.proofs.Common.{◌≡◌, ℕ, ◌||◌, Bool, true, false, cond, List, [], ◌∷◌, map, find, length, All, Option, Some, None, option_map, refl, sym, ap, ◌∙◌}
use Rattle.std.proofs.lemmas.List.Elements.{All-head, All-tail}
use Rattle.sqlx_pool_lists.specs.Limits.{limits_of}
use Rattle.sqlx_pool_marks.specs.declared.mark.Mark.{Mark}
use Rattle.sqlx_pool_lists.specs.declared.options.PoolOptions.{PoolOptions}
use Rattle.sqlx_pool_lists.specs.declared.steps.Idle.{Idle}
use Rattle.sqlx_pool_marks.specs.Marks.{idle_of, loans_of, leaked_of, tickets_of}
use Rattle.sqlx_pool_marks.specs.Counts.{left_in, free_of}
use Rattle.sqlx_pool_lists.specs.Core.{Core, resting, waiting, free}
use Rattle.sqlx_pool_lists.specs.StandsFor.{StandsIn, StandsFor}
use Rattle.sqlx_pool_marks.specs.EventTable.{is_idle_too_long, may_pass, may_open, lacking}
use Rattle.sqlx_pool_lists.specs.MaintenanceSteps.{is_reaped_at, reap_answer, has_place, lacks, close_answer}
use Rattle.sqlx_pool_marks.specs.EventTable.{may_pass_at, is_old_since, is_beyond_at, entry_conn, reaped_at, has_place_at, lacking_at, closed_at}
use Rattle.sqlx_pool_lists.specs.MaintenanceSteps.{idle_conn}
use Rattle.sqlx_pool_core.proofs.Stands.{IsIdleBorn, stands-in}
use Rattle.sqlx_pool_core.proofs.TurnAtMarks.{gone-stands, waiting-stands, owned-stands, size-stands}

-- ---- found alike

beyond-is : {C : Type 0} (options : PoolOptions) (m : ℕ) (marks : List Mark) (i : Idle C) → IsIdleBorn marks i → is_reaped_at options m i ≡ is_beyond_at (limits_of options) m marks (resting i)
beyond-is options m marks i born = ap (λ (o : Option ℕ). is_idle_too_long (limits_of options) i.since.0 m || is_old_since (limits_of options) o m) (sym born)

found-alike : {C : Type 0} (options : PoolOptions) (m : ℕ) (marks : List Mark) (idle : List (Idle C)) → All (IsIdleBorn marks) idle
    → option_map idle_conn (find (is_reaped_at options m) idle) ≡ option_map entry_conn (find (is_beyond_at (limits_of options) m marks) (map resting idle))
found-alike options m marks [] all = refl
found-alike {C} options m marks (i ∷ idle) all =
    ap (λ (b : Bool). option_map idle_conn (cond b (Some i) (find (is_reaped_at options m) idle))) (beyond-is options m marks i (All-head (IsIdleBorn marks) i idle all))
    ∙ by (found-alike options m marks idle (All-tail (IsIdleBorn marks) i idle all)) (is_beyond_at (limits_of options) m marks (resting i))
  where
    by : option_map idle_conn (find (is_reaped_at options m) idle) ≡ option_map entry_conn (find (is_beyond_at (limits_of options) m marks) (map resting idle)) → (b : Bool)
        → option_map idle_conn (cond b (Some i) (find (is_reaped_at options m) idle)) ≡ option_map entry_conn (cond b (Some (resting i)) (find (is_beyond_at (limits_of options) m marks) (map resting idle)))
    by rest true = refl
    by rest false = rest

numbers-alike : {C : Type 0} (idle : List (Idle C)) → map idle_conn idle ≡ map entry_conn (map resting idle)
numbers-alike [] = refl
numbers-alike (i ∷ idle) = ap (λ (l : List ℕ). i.lent.id ∷ l) (numbers-alike idle)

-- ---- by the marks

module _ {C : Type 0} (core : Core C) (marks : List Mark) (s : StandsFor core marks) where
  inside : StandsIn core marks
  inside = stands-in core marks s

  free-at : free core ≡ free_of core.options.max_connections (length (loans_of marks)) (leaked_of marks) (left_in (tickets_of marks)) core.places
  free-at = λ i. free_of (s.permits i) (owned-stands core marks inside i) (s.leaked i) (gone-stands core marks inside i) core.places

  pub passes-at : may_pass core.shut (waiting core.tickets) (free core) ≡ may_pass_at core.options.max_connections core.places marks
  passes-at = λ i. may_pass (s.shut i) (waiting-stands core marks inside i) (free-at i)

  pub place-at : (minimum : ℕ) → has_place minimum core ≡ has_place_at (limits_of core.options) core.places marks minimum
  place-at minimum = λ i. may_open (s.shut i) (waiting-stands core marks inside i) (free-at i) (size-stands core marks inside i) minimum core.options.max_connections (s.conn_number i)

  pub lacks-at : lacks core ≡ lacking_at (limits_of core.options) core.places marks
  lacks-at = λ i. lacking (s.shut i) (waiting-stands core marks inside i) (free-at i) (size-stands core marks inside i) core.options.min_connections core.options.max_connections (s.conn_number i)

  reap_with : (m : ℕ) (may : Bool) → option_map idle_conn (reap_answer may core.options m core.idle) ≡ cond may (option_map entry_conn (find (is_beyond_at (limits_of core.options) m marks) (idle_of marks))) None
  reap_with m true = found-alike core.options m marks core.idle s.idle_born ∙ ap (λ l. option_map entry_conn (find (is_beyond_at (limits_of core.options) m marks) l)) s.idle
  reap_with m false = refl

  pub reap-at : (m : ℕ) (r : Option (Idle C)) → r ≡ reap_answer (may_pass core.shut (waiting core.tickets) (free core)) core.options m core.idle → option_map idle_conn r ≡ reaped_at (limits_of core.options) core.places marks m
  reap-at m r is =
      ap (option_map idle_conn) is ∙ reap_with m (may_pass core.shut (waiting core.tickets) (free core))
      ∙ ap (λ (b : Bool). cond b (option_map entry_conn (find (is_beyond_at (limits_of core.options) m marks) (idle_of marks))) None) passes-at

  close_with : (shut : Bool) → map idle_conn (close_answer shut core.idle) ≡ cond shut [] (map entry_conn (idle_of marks))
  close_with true = refl
  close_with false = numbers-alike core.idle ∙ ap (map entry_conn) s.idle

  pub close-at : (r : List (Idle C)) → r ≡ close_answer core.shut core.idle → map idle_conn r ≡ closed_at marks
  close-at r is = ap (map idle_conn) is ∙ close_with core.shut ∙ ap (λ (b : Bool). cond b [] (map entry_conn (idle_of marks))) s.shut
