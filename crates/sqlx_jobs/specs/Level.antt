-- A connection at rest, and one within a level, by the rows that it sees; and what a level's writes come to.
use Rattle.std.specs.Prelude.{◌≡◌, ℕ, ◌+◌, ◌≤◌, Bool, true, false, [], Option, Some, None}
use Rattle.sqlx_savepoints.specs.Rows.{Rows, laid, written}
use Rattle.sqlx_script.specs.declared.reply.Reply.{Reply as Said}
use Rattle.sqlx_script.specs.declared.reply.Reply.TheVariants.{Io}
use Rattle.mem_store.specs.Store.{Store, Link, new_link}
use Rattle.sqlx_jobs_rules.specs.declared.event.Met.{Met}
use Rattle.sqlx_jobs_rules.specs.declared.event.Met.TheVariants.{Accepted, WriteRefused, CommitRefused}
use Rattle.sqlx_jobs_rules.specs.declared.reply.Reply.{Reply}
use Rattle.sqlx_jobs_rules.specs.declared.reply.Reply.TheVariants.{Fault}
use Rattle.sqlx_jobs.specs.declared.change.Put.{Put}
use Rattle.sqlx_jobs.specs.declared.change.Change.{Change}

-- Connection n is at rest, no other has an open level, and these are the rows; at least so many levels were begun, and so many rows written.
pub record IsAtRest (store : Store) (link : Link) (n : ℕ) (rows : Rows) (begun writes : ℕ) : Type 0 where
  pub sees : store.rows ≡ rows
  pub alone : store.open_links ≡ 0
  pub rests : link ≡ new_link n
  pub levels : begun ≤ store.runs.begun
  pub puts : writes ≤ store.runs.writes

-- Connection n is in a level, and no other has one; the committed rows are those before, and it sees these.
pub record IsWithin (store : Store) (link : Link) (n : ℕ) (before rows : Rows) (begun writes : ℕ) : Type 0 where
  pub below : store.rows ≡ before
  pub alone : store.open_links ≡ 1
  pub number : link.number ≡ n
  pub depth : link.depth ≡ 1
  pub entries : link.entries ≡ []
  pub sees : laid link.own before ≡ rows
  pub levels : begun ≤ store.runs.begun
  pub puts : writes ≤ store.runs.writes

-- whether a reply says that a statement was refused with Io
abbrev pub is_io : Said → Bool
is_io Io = true
is_io other = false

-- the rows after a row was put
abbrev pub put_in : Put → Rows → Rows
put_in put rows = written put.key (Some put.value) rows

-- the rows after a second row was put, if there is one
abbrev pub put_too : Option Put → Rows → Rows
put_too None rows = rows
put_too (Some put) rows = put_in put rows

-- the rows after a change
abbrev pub changed : Change → Rows → Rows
changed change rows = put_too change.second (put_in change.first rows)

-- whether the first write is refused
abbrev pub refuses_write : Met → Bool
refuses_write WriteRefused = true
refuses_write other = false

-- whether the commit is refused
abbrev pub refuses_commit : Met → Bool
refuses_commit CommitRefused = true
refuses_commit other = false

-- what came of a row that was to be put
abbrev pub Puts : Bool → Put → ℕ → Rows → Rows → ℕ → ℕ → Bool → Store → Link → Type 0
Puts true put n before rows begun writes accepted store link = (accepted ≡ false) × IsWithin store link n before rows begun writes
Puts false put n before rows begun writes accepted store link = (accepted ≡ true) × IsWithin store link n before (put_in put rows) begun (writes + 1)

-- what came of a level that was to be committed
abbrev pub Commits : Bool → ℕ → Rows → Rows → ℕ → ℕ → Bool → Store → Link → Type 0
Commits true n before rows begun writes accepted store link = (accepted ≡ false) × IsAtRest store link n before begun writes
Commits false n before rows begun writes accepted store link = (accepted ≡ true) × IsAtRest store link n rows begun writes

-- what came of a level's change
abbrev pub Makes : Met → Change → ℕ → Rows → ℕ → ℕ → Bool → Store → Link → Type 0
Makes Accepted change n rows begun writes accepted store link = (accepted ≡ true) × IsAtRest store link n (changed change rows) begun (writes + 1)
Makes WriteRefused change n rows begun writes accepted store link = (accepted ≡ false) × IsAtRest store link n rows begun writes
Makes CommitRefused change n rows begun writes accepted store link = (accepted ≡ false) × IsAtRest store link n rows begun writes

-- how the level of an event ends whose plan has this change and this reply
abbrev pub Ends : Option Change → Reply → Met → ℕ → Rows → ℕ → ℕ → Reply → Store → Link → Type 0
Ends None due met n rows begun writes reply store link = (reply ≡ due) × IsAtRest store link n rows begun writes
Ends (Some change) due Accepted n rows begun writes reply store link = (reply ≡ due) × IsAtRest store link n (changed change rows) begun (writes + 1)
Ends (Some change) due WriteRefused n rows begun writes reply store link = (reply ≡ Fault) × IsAtRest store link n rows begun writes
Ends (Some change) due CommitRefused n rows begun writes reply store link = (reply ≡ Fault) × IsAtRest store link n rows begun writes
