-- A family keeps a book: each pool is as its account says.
use Rattle.std.specs.Prelude.{◌≡◌, ℕ, ◌+◌, ◌<◌, ◌≤◌, true, false, List, [], None, length}
use Rattle.sqlx_pool_marks.specs.declared.mark.Mark.{Mark}
use Rattle.sqlx_pool_lists.specs.declared.options.PoolOptions.{PoolOptions}
use Rattle.sqlx_pool_lists.specs.Defaults.{default_options}
use Rattle.sqlx_pool_lists.specs.Core.{Core, gone}
use Rattle.sqlx_family.specs.declared.family.FamilyPool.{FamilyPool}
use Rattle.sqlx_family.specs.Pools.{Pools, entry_of}
use Rattle.sqlx_family.specs.FamilyLogs.{StandTogether}
use Rattle.sqlx_lines.specs.Numbers.{nanos}
use Rattle.sqlx_tenants_rules.specs.declared.event.Opening.{Opening}
use Rattle.sqlx_tenants_rules.specs.Book.{Account, Book, account, is_retired, live, open_in, ticket_due, conn_due}

-- the options of a pool of this maximum: nothing is opened unasked, nothing grows old, nothing is tested
abbrev pub options_for : ℕ → ℕ → PoolOptions
options_for max timeout = record default_options { max_connections = max; min_connections = 0; acquire_timeout = timeout; max_lifetime = None; idle_timeout = None; test_before_acquire = false }

-- Between two events nothing of the pool is under way, and its idle connections never outnumber its free permits.
pub record IsAtRest (core : Core (Unit {0})) : Type 0 where
  pub places : core.places ≡ 0
  pub leaked : core.leaked ≡ 0
  pub gone : gone core.tickets ≡ 0
  pub covered : length core.idle + length core.held ≤ core.permits

-- The pool is as its account says, and at rest.
pub record IsPool (timeout : ℕ) (p : FamilyPool (Unit {0})) (a : Account) : Type 0 where
  pub options : p.core.options ≡ options_for a.budget timeout
  pub owned : p.core.permits ≡ a.owned
  pub retired : p.retired ≡ is_retired a
  pub rests : IsAtRest p.core
  pub empty : p.retired ≡ true → length p.core.idle ≡ 0

-- the log of each pool, by its name
abbrev pub logs_of : Book → ℕ → List Mark
logs_of book q = (account q book).marks

-- As many pools as accounts, each as its account says.
pub record AreAlike (timeout : ℕ) (f : Pools (Unit {0})) (book : Book) : Type 0 where
  pub names : length f.pools ≡ length book
  pub each : (q : ℕ) → q < length book → IsPool timeout (entry_of q f) (account q book)

-- The family keeps the book: its pools stand for the logs and own the permits of their accounts, the root lends nothing, and the next numbers are those of the book; its last moment is this at most, and each connection that is open is idle or owned.
pub record Keeps (first : Opening) (f : Pools (Unit {0})) (book : Book) (moment : ℕ) : Type 0 where
  pub alike : AreAlike (nanos first.timeout) f book
  pub some : 1 ≤ length book
  pub few : length book ≤ 1001
  pub logs : StandTogether f (logs_of book)
  pub root : (account 0 book).marks ≡ []
  pub limit : (account 0 book).budget ≡ first.limit
  pub tickets : f.shared.next_ticket ≡ ticket_due book
  pub conns : f.shared.next_conn ≡ conn_due book
  pub reached : f.shared.last.0 ≤ moment
  pub lives : (q : ℕ) → q < length book → live (account q book) ≤ open_in (account q book)
