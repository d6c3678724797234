-- A log of packed marks.
use Rattle.std.specs.Prelude.{◌≡◌, ℕ, ◌+◌, ◌-◌, ◌^◌, ◌≤◌, ◌⊎◌, min, true, false, List, Some, length, slice_get}
use Rattle.sqlx_pool_marks.specs.declared.mark.Mark.{Mark}
use Rattle.sqlx_pool_log.specs.declared.entry.LoanMarks.{LoanMarks}
use Rattle.sqlx_pool_log.specs.declared.entry.Entry.{Entry}
use Rattle.sqlx_pool_log.specs.declared.entry.Entry.TheVariants.{Loan}
use Rattle.sqlx_pool_log.specs.Entries.{marks_at}

-- A log, and how many marks there may be in its memory, if each further one takes an entry.
pub record PackedRow : Type 0 where
  pub items : List Mark
  pub capacity : ℕ

-- the marks of a log
abbrev pub marks_of : PackedRow → List Mark
marks_of log = log.items

-- how many there may be
abbrev pub room_of : PackedRow → ℕ
room_of log = log.capacity

-- the log of these entries
abbrev pub row_of : List Entry → ℕ → PackedRow
row_of entries capacity = record { items = marks_at entries; capacity = length (marks_at entries) + (min capacity (2 ^ 60) - length entries) }

-- The marks are counted, and there aren't more entries than a log may have.
pub record AreCounted (entries : List Entry) (counted : ℕ) : Type 0 where
  pub counted_right : counted ≡ length (marks_at entries)
  pub few : length entries ≤ 2 ^ 60

-- the last entry has these marks of a loan
pub record IsLastLoan (entries : List Entry) (at : ℕ) (loan : LoanMarks) : Type 0 where
  pub there : slice_get entries at ≡ Some (Loan loan)
  pub last : at + 1 ≡ length entries

-- just the ask of this ticket
pub record IsJustAsked (ticket : ℕ) (loan : LoanMarks) : Type 0 where
  pub asked : loan.asked ≡ true
  pub left : loan.left ≡ false
  pub taken : loan.taken ≡ false
  pub lent : loan.lent ≡ false
  pub ended : loan.ended ≡ false
  pub kept : loan.kept ≡ false
  pub of : loan.ticket ≡ ticket

-- this ticket took this connection and nothing came of it yet; where its ask is there too, it is this client's
pub record IsJustTaken (client ticket conn : ℕ) (loan : LoanMarks) : Type 0 where
  pub left : loan.left ≡ true
  pub taken : loan.taken ≡ true
  pub lent : loan.lent ≡ false
  pub ended : loan.ended ≡ false
  pub kept : loan.kept ≡ false
  pub of : loan.ticket ≡ ticket
  pub got : loan.conn ≡ conn
  pub by_client : (loan.asked ≡ false) ⊎ (loan.client ≡ client)
