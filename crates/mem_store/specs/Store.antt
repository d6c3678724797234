-- The store, a link and a session as plain values.
use Rattle.std.specs.Prelude.{◌≡◌, ℕ, ◌+◌, ◌-◌, min, Bool, true, false, nat_lt, List, [], refl}
use Rattle.std.specs.Coded.{Coded, code_by, coded×, coded_ℕ, coded_bool, coded_list}
use Rattle.std.specs.FinMap.{empty}
use Rattle.sqlx_savepoints.specs.Rows.{Rows, Writes}
use Rattle.sqlx_savepoints.specs.NamedSavepoints.{Named, Entry}
use Rattle.mem_store.specs.SavepointStack.{rows_code, writes_code, entry_code}
use Rattle.mem_store.specs.Undo.{Undo, undo_code, no_undo}
use Rattle.mem_store.specs.declared.answer.Answer.{Answer}
use Rattle.mem_store.specs.declared.answer.Answer.TheVariants.{Accept, Io, Refuse}
use Rattle.mem_store.specs.declared.runs.Runs.{Runs}

-- the committed rows, how many of its links have an open level, the number of the last link given, and how often each kind of text ran
pub record Store : Type 0 where
  pub rows : Rows
  pub open_links : ℕ
  pub given : ℕ
  pub runs : Runs

-- a connection: its number, its depth, its own writes, its savepoints with the newest first, and what it can undo
pub record Link : Type 0 where
  pub number : ℕ
  pub depth : ℕ
  pub own : Writes
  pub entries : List Entry
  pub undo : Undo

-- a store and one of its links at work, and what meets the next statement
pub record Session : Type 0 where
  pub store : Store
  pub link : Link
  pub answer : Answer

-- a store and a link of it put to work, where this meets the next statement
abbrev pub at_work : Store → Link → Answer → Session
at_work store link answer = record { store = store; link = link; answer = answer }

-- an answer as two truth values, and back
abbrev pub bools_of : Answer → Bool × Bool
bools_of Accept = (true, true)
bools_of Io = (false, true)
bools_of Refuse = (false, false)

-- the answer that two bits stand for
abbrev pub answer_of : Bool × Bool → Answer
answer_of (true, second) = Accept
answer_of (false, true) = Io
answer_of (false, false) = Refuse

-- an answer is read back from its two bits
abbrev pub answer_of-bools_of : (answer : Answer) → answer_of (bools_of answer) ≡ answer
answer_of-bools_of Accept = refl
answer_of-bools_of Io = refl
answer_of-bools_of Refuse = refl

-- counts, written out
abbrev pub runs_code : Coded Runs
runs_code = code_by (ℕ × (ℕ × (ℕ × ℕ))) (coded× coded_ℕ (coded× coded_ℕ (coded× coded_ℕ coded_ℕ))) (λ r. (r.begun, (r.ended, (r.writes, r.reads)))) (λ p. record { begun = p.0; ended = p.1.0; writes = p.1.1.0; reads = p.1.1.1 }) (λ _. refl)

-- a store, written out
abbrev pub store_code : Coded Store
store_code = code_by (Rows × (ℕ × (ℕ × Runs))) (coded× rows_code (coded× coded_ℕ (coded× coded_ℕ runs_code))) (λ s. (s.rows, (s.open_links, (s.given, s.runs)))) (λ p. record { rows = p.0; open_links = p.1.0; given = p.1.1.0; runs = p.1.1.1 }) (λ _. refl)

-- a link, written out
abbrev pub link_code : Coded Link
link_code = code_by (ℕ × (ℕ × (Writes × (List Entry × Undo)))) (coded× coded_ℕ (coded× coded_ℕ (coded× writes_code (coded× (coded_list entry_code) undo_code)))) (λ l. (l.number, (l.depth, (l.own, (l.entries, l.undo))))) (λ p. record { number = p.0; depth = p.1.0; own = p.1.1.0; entries = p.1.1.1.0; undo = p.1.1.1.1 }) (λ _. refl)

-- an answer, written out
abbrev pub answer_code : Coded Answer
answer_code = code_by (Bool × Bool) (coded× coded_bool coded_bool) bools_of answer_of answer_of-bools_of

-- a session, written out
abbrev pub session_code : Coded Session
session_code = code_by (Store × (Link × Answer)) (coded× store_code (coded× link_code answer_code)) (λ s. (s.store, (s.link, s.answer))) (λ p. record { store = p.0; link = p.1.0; answer = p.1.1 }) (λ _. refl)

-- a store without rows and links
abbrev pub new_store : Store
new_store = record { rows = empty; open_links = 0; given = 0; runs = record { begun = 0; ended = 0; writes = 0; reads = 0 } }

-- a link without a level
abbrev pub new_link : ℕ → Link
new_link number = record { number = number; depth = 0; own = empty; entries = []; undo = no_undo }

-- the store after one more link was given
abbrev pub connected : ℕ → Store → Store
connected number store = record store { given = number }

-- what a link of this depth adds to the count of links with an open level
abbrev pub level_mark : ℕ → ℕ
level_mark depth = min depth 1

-- whether another link than one of this depth has an open level
abbrev pub others_in_level : ℕ → ℕ → Bool
others_in_level depth open_links = nat_lt (level_mark depth) open_links

-- how many links have an open level after one came from a depth to another
abbrev pub remarked : ℕ → ℕ → ℕ → ℕ
remarked before now open_links = open_links - level_mark before + level_mark now

-- the store after a connection of this depth came to this state by levels
abbrev pub store_moved : Named → ℕ → Runs → Store → Store
store_moved state depth runs store = record store { rows = state.rows; open_links = remarked depth state.depth store.open_links; runs = runs }

-- the store after a link of this depth was closed
abbrev pub closed_at : ℕ → Store → Store
closed_at depth store = record store { open_links = store.open_links - level_mark depth }

-- the state of one connection, as named savepoints have it
abbrev pub named_by : Rows → Link → Named
named_by rows link = record { rows = rows; own = link.own; entries = link.entries; depth = link.depth }

-- the state of the session's connection
abbrev pub state_of : Session → Named
state_of session = named_by session.store.rows session.link

-- a link that has come to this state, and to what it can undo there; its number stays
abbrev pub moved : Named → Undo → Link → Link
moved state undo link = record link { depth = state.depth; own = state.own; entries = state.entries; undo = undo }

-- a link whose levels have all ended
abbrev pub at_rest : Link → Link
at_rest link = record link { depth = 0; own = empty; entries = []; undo = no_undo }
