-- A connection and a session as plain values, and what acts and refusals make of a session.
use Rattle.std.specs.Prelude.{◌&&◌, ℕ, Bool, true, false, is_some, List, [], Option, refl}
use Rattle.std.specs.Coded.{Coded, code_by, coded×, coded_bool, coded_list, coded_ℕ}
use Rattle.lru.specs.LruCache.{LruCache, lru_cache, lru_cache_code}
use Rattle.sqlx_text.specs.Cache.{inserted}
use Rattle.sqlx_any.specs.declared.arguments.AnyArguments.{AnyArguments}
use Rattle.mem_store.specs.Statements.{read_statement}
use Rattle.mem_store.specs.Store.{Link as Side, Session as Work, link_code as side_code, session_code as work_code}
use Rattle.mem_store.specs.Acts.{after_act, after_start_rollback, counted}
use Rattle.mem_store.specs.Acts as store
use Rattle.mem_store.specs.Undo.{Undo}
use Rattle.mem_store.specs.declared.act.Act.{Act}

-- the texts of statements, the most recently used first
abbrev pub Cache : Type 0
Cache = LruCache (List ℕ) (Unit {0})

-- a connection: the store's link, and its cache of statements
pub record Link : Type 0 where
  pub side : Side
  pub cache : Cache

-- a store and one of its links at work with what meets the next statement, the link's cache of statements, and how many refusals were counted
pub record Session : Type 0 where
  pub work : Work
  pub cache : Cache
  pub faults : ℕ

-- no value, written out
abbrev pub unit_code : Coded (Unit {0})
unit_code = code_by Bool coded_bool (λ _. true) (λ _. tt) (λ _. refl)

-- a cache of texts, written out
abbrev pub cache_code : Coded Cache
cache_code = lru_cache_code (coded_list coded_ℕ) unit_code

-- a link, written out
abbrev pub link_code : Coded Link
link_code = code_by (Side × Cache) (coded× side_code cache_code) (λ l. (l.side, l.cache)) (λ p. record { side = p.0; cache = p.1 }) (λ _. refl)

-- a session, written out
abbrev pub session_code : Coded Session
session_code = code_by (Work × (Cache × ℕ)) (coded× work_code (coded× cache_code coded_ℕ)) (λ s. (s.work, (s.cache, s.faults))) (λ p. record { work = p.0; cache = p.1.0; faults = p.1.1 }) (λ _. refl)

-- a cache without texts, of at most 100
abbrev pub new_cache : Cache
new_cache = lru_cache [] 100

-- how many levels are open
abbrev pub depth : Session → ℕ
depth session = session.work.link.depth

-- how far its connection can go back
abbrev pub undo : Session → Undo
undo session = session.work.link.undo

-- the session after an act that isn't refused
abbrev pub acted : Act → Session → Session
acted act session = record session { work = after_act act session.work }

-- the session after one more refusal was counted
abbrev pub fault_counted : Session → Session
fault_counted session = record session { faults = counted session.faults }

-- the session after a refusal, which is counted and spends what was handed in
abbrev pub refused : Session → Session
refused session = record session { work = store.refused session.work; faults = counted session.faults }

-- the session after its innermost level was rolled back without a text
abbrev pub rolled_back : Session → Session
rolled_back session = record session { work = after_start_rollback session.work }

-- whether a query is noted: it is to be kept, brings a list of arguments, and its text is held
abbrev pub is_noted : List ℕ → Bool → Option AnyArguments → Bool
is_noted text kept arguments = kept && (is_some arguments && is_some (read_statement text))

-- the session after it looked whether to note the text
abbrev pub noted_if : Bool → List ℕ → Session → Session
noted_if true text session = record session { cache = lru_cache (inserted session.cache text tt) session.cache.cap }
noted_if false text session = session

-- the session after a query's text was noted, where it is
abbrev pub noted : List ℕ → Bool → Option AnyArguments → Session → Session
noted text kept arguments session = noted_if (is_noted text kept arguments) text session

-- the session without its cached texts
abbrev pub forgotten : Session → Session
forgotten session = record session { cache = lru_cache [] session.cache.cap }
