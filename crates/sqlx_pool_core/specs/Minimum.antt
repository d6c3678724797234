-- The keeping of the minimum: one try after another, while a place may be held, up to the first that opens nothing.
use Rattle.std.specs.Prelude.{zero, suc, length, All, ◌≡◌, ◌⊎◌, ℕ, ◌+◌, Bool, true, false, max, List, [], ◌∷◌, ◌++◌, Option, Some, None}
use Rattle.sqlx_pool_lists.specs.declared.steps.Openings.{Openings}
use Rattle.sqlx_pool_lists.specs.declared.steps.Idle.{Idle}
use Rattle.sqlx_pool_marks.specs.declared.mark.Mark.{Mark}
use Rattle.sqlx_pool_marks.specs.declared.mark.Mark.TheVariants as mark
use Rattle.sqlx_pool_core.specs.Logs.{Logs}
use Rattle.sqlx_pool_lists.specs.Core.{Core}
use Rattle.sqlx_pool_lists.specs.MaintenanceSteps.{has_place, placed, done, done_marks}
use Rattle.sqlx_pool_core.specs.declared.idle_check.Opening.{Opening}
use Rattle.sqlx_pool_core.specs.declared.idle_check.Opening.TheVariants.{Opened, Failed}
use Rattle.sqlx_pool_core.specs.Outside.{HasRisen, is_want}
use Rattle.sqlx_pool_core.specs.Calls.{Call}
use Rattle.sqlx_pool_core.specs.Chain.{Tries}

-- the connection that a try opened
abbrev pub raw_of : {C : Type 0} → Opening C → Option C
raw_of (Opened raw) = Some raw
raw_of other = None

-- the pool's two steps for one place: it is held, and is told what came of it
abbrev pub filled : {C : Type 0} → ℕ → Opening C → Core C → Core C
filled now opening core = done core.shut (max core.last now) (raw_of opening) (placed true core)

-- so many of these tries opened a connection
abbrev pub opened_of : {C : Type 0} → List (Opening C) → ℕ
opened_of [] = 0
opened_of (Opened raw ∷ later) = opened_of later + 1
opened_of (other ∷ later) = opened_of later

-- the last of these tries wanted memory
abbrev pub is_short : {C : Type 0} → List (Opening C) → Bool
is_short [] = false
is_short (Failed error ∷ []) = is_want error
is_short (other ∷ later) = is_short later

-- the marks that the pool's two steps for one place make
abbrev pub filled_marks : {C : Type 0} → ℕ → Opening C → Core C → List Mark
filled_marks now opening core = done_marks core.shut core.next_conn (max core.last now) (raw_of opening)

-- why a keeping of the minimum ends: no place is left, a refusal was counted, or memory was wanting
abbrev pub EndsFor : {C : Type 0} → ℕ → Core C → ℕ → ℕ → ℕ → ℕ → Bool → Type 0
EndsFor minimum new faults faults_now refusals refusals_now short = (has_place minimum new ≡ false) ⊎ ((HasRisen faults faults_now ⊎ HasRisen refusals refusals_now) ⊎ (short ≡ true))

-- the marks of so many openings, whose first number is n
abbrev pub openings_made : ℕ → ℕ → ℕ → List Mark
openings_made zero n m = []
openings_made (suc k) n m = mark.Opened n m ∷ mark.Kept n m ∷ openings_made k (n + 1) m

-- an idle connection that was opened at this moment; of some state of the outside it has no level open, and the chain of calls (`Keeps`) says that it had none when it came
abbrev pub IsFresh : {C X : Type 0} → (X → C → ℕ) → ℕ → Idle C → Type 0
IsFresh {C} {X} depth m i = (i.since.0 ≡ m) × (i.lent.created.0 ≡ m) × ((out : X) × (depth out i.lent.raw ≡ 0))

-- The core after so many openings for the minimum: they are the last of the idle, the rest is as it was.
pub record Opens {C X : Type 0} (depth : X → C → ℕ) (core new : Core C) (opened now : ℕ) : Type 0 where
  pub options : new.options ≡ core.options
  pub tickets : new.tickets ≡ core.tickets
  pub held : new.held ≡ core.held
  pub leaked : new.leaked ≡ core.leaked
  pub shut : new.shut ≡ core.shut
  pub closed : new.closed ≡ core.closed
  pub places : new.places ≡ core.places
  pub permits : new.permits ≡ core.permits
  pub next_ticket : new.next_ticket ≡ core.next_ticket
  pub next_conn : new.next_conn ≡ core.next_conn + opened
  pub fresh : List (Idle C)
  pub idle : new.idle ≡ core.idle ++ fresh
  pub count : length fresh ≡ opened
  pub are_fresh : All (IsFresh depth (max core.last now)) fresh
  pub moment : max new.last now ≡ max core.last now

module _ {C O X : Type 0} (does : Call C O → X → X → Type 0) (depth : X → C → ℕ) (options : O) (now : ℕ) where
  -- these tries, one after another
  abbrev pub Keeps : List (Opening C) → Core C → Core C → X → X → Type 0
  Keeps [] core new old out = (has_place core.options.min_connections core ≡ false) × (new ≡ core) × (out ≡ old)
  Keeps (Opened raw ∷ tries) core new old out = (has_place core.options.min_connections core ≡ true) × ((between : X) × (
      Tries does depth core.options.after_connect options (Opened raw) old between
      × Logs core (filled_marks now (Opened raw) core) (filled now (Opened raw) core)
      × Keeps tries (filled now (Opened raw) core) new between out))
  Keeps (other ∷ []) core new old out = (has_place core.options.min_connections core ≡ true) × Tries does depth core.options.after_connect options other old out × (new ≡ filled now other core) × Logs core [] new
  Keeps (other ∷ more ∷ tries) core new old out = ⊥

  -- The whole keeping.
  pub record KeepsMinimum (core new : Core C) (old out : X) (result : Openings) : Type 0 where
    pub tries : List (Opening C)
    pub keeps : Keeps tries core new old out
    pub opened : result.opened ≡ opened_of tries
    pub short : result.short ≡ is_short tries
