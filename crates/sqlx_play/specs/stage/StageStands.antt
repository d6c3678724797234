-- When a stage is what events and their replies come to.
use Rattle.std.specs.Prelude.{◌≡◌, ℕ, ◌+◌, ◌≤◌, [], All, Some, None}
use Rattle.sqlx_script.specs.declared.pool_line.PoolLine.{PoolLine}
use Rattle.sqlx_pool_lists.specs.declared.options.PoolOptions.{PoolOptions}
use Rattle.sqlx_pool_lists.specs.declared.ticket.Ticket.{Ticket}
use Rattle.sqlx_pool_lists.specs.declared.ticket.Phase.{Phase}
use Rattle.sqlx_pool_lists.specs.declared.ticket.Phase.TheVariants as phase
use Rattle.sqlx_pool_lists.specs.StandsFor.{StandsFor}
use Rattle.sqlx_play.specs.stage.Scene.{Scene}
use Rattle.sqlx_script_rules.specs.ScriptMarks.{marks_of}
use Rattle.sqlx_script_rules.specs.ScriptLevels.{history_of}
use Rattle.sqlx_script_rules.specs.Tries.{tries_of}
use Rattle.sqlx_play.specs.stage.LinksStand.{LinksStand}
use Rattle.sqlx_play.specs.ScriptRuns.{runs_of}
use Rattle.sqlx_script_rules.specs.Pairs.{Pairs}

-- The options of a core are those that the first line of a script sets up.
pub record IsSetUp (pool : PoolLine) (options : PoolOptions) : Type 0 where
  pub max : options.max_connections ≡ pool.max
  pub min : options.min_connections ≡ pool.min
  pub timeout : options.acquire_timeout ≡ pool.timeout
  pub lifetime : options.max_lifetime ≡ pool.lifetime
  pub idle : options.idle_timeout ≡ pool.idle
  pub test_before_acquire : options.test_before_acquire ≡ pool.test_before_acquire
  pub after_connect : options.after_connect ≡ pool.after_connect
  pub before_acquire : options.before_acquire ≡ pool.before_acquire
  pub after_release : options.after_release ≡ pool.after_release
  pub tries : options.idle_tries ≡ pool.tries

-- the tries of a ticket in this phase: none in the line, and in backoff those that brought it there; between two events no step is under way
abbrev pub IsTriedAt : Pairs → Ticket → Phase → Type 0
IsTriedAt pairs x phase.Waiting = tries_of x.number pairs ≡ None
IsTriedAt pairs x (phase.Backoff until) = (wait : ℕ) × (x.last_wait ≡ Some wait) × (tries_of x.number pairs ≡ Some (record { first = x.first_try.0; wait = wait; until = until }))
IsTriedAt pairs x (phase.Testing c created before) = ⊥
IsTriedAt pairs x phase.Connecting = ⊥

-- the tries of a ticket are those that its phase tells
abbrev pub IsTried : Pairs → Ticket → Type 0
IsTried pairs x = IsTriedAt pairs x x.phase

-- The stage is as it is after these events and replies: its core stands for their marks, its tickets tried what they say, and its links and its store are what their transactions come to.
pub record StageStands (stage : Scene) (pairs : Pairs) : Type 0 where
  pub stands : StandsFor stage.core (marks_of stage.pool pairs)
  pub set_up : IsSetUp stage.pool stage.core.options
  pub places : stage.core.places ≡ 0
  pub tried : All (IsTried pairs) stage.core.tickets
  pub untried : (t : ℕ) → stage.core.next_ticket ≤ t → tries_of t pairs ≡ None
  pub links : LinksStand stage.core stage.out.store stage.lent.items (history_of stage.pool pairs)

-- the last moment of the stage
abbrev pub last_of : Scene → ℕ
last_of stage = stage.core.last

-- how many numbers of the stage are used up
abbrev pub numbers_of : Scene → ℕ
numbers_of stage = stage.core.next_ticket + stage.core.next_conn

-- A stage before the first event.
pub record IsFresh (stage : Scene) : Type 0 where
  -- it stands for no event
  pub stands : StageStands stage []
  -- no text ran
  pub runs : stage.out.store.runs ≡ runs_of []
  -- no moment has passed
  pub last : last_of stage ≡ 0
  -- two numbers are used up at the most
  pub numbers : numbers_of stage ≤ 2
