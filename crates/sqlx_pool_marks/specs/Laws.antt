-- What a fair log says, in the words of those who use a pool.
use Rattle.std.specs.Prelude.{◌≡◌, ℕ, ◌<◌, ◌≤◌, Bool, false, not, List, ◌∷◌, ◌++◌, Option, Some, None, IsTrue}
use Rattle.std.specs.List.{list_any}
use Rattle.sqlx_pool_marks.specs.declared.mark.Mark.{Mark}
use Rattle.sqlx_pool_marks.specs.declared.mark.Mark.TheVariants.{Left, Lent, Kept}
use Rattle.sqlx_pool_marks.specs.Marks.{tickets_of, loans_of, owner_of, idle_of, opened_at, leaked_of, is_shut, next_ticket, next_conn}
use Rattle.sqlx_pool_marks.specs.View.{View, view_of, before, free, size}
use Rattle.sqlx_pool_marks.specs.FairLog.{IsSafe, IsOrdered, first_of_marks, is_owned, waits}

-- Behind this start each loan finds its connection without an owner: no connection has two owners.
abbrev pub NoTwoOwners : List Mark → List Mark → Type 0
NoTwoOwners start marks = (front later : List Mark) (client conn : ℕ) → marks ≡ front ++ Lent client conn ∷ later → owner_of conn (start ++ front) ≡ None

-- Each ticket that leaves the line waited in it, and fewer waiting tickets preceded it than permits were free.
abbrev pub InTurn : ℕ → List Mark → List Mark → Type 0
InTurn max start marks =
    (front later : List Mark) (ticket : ℕ) → marks ≡ front ++ Left ticket ∷ later
    → IsTrue (waits ticket (view_of (start ++ front))) × (before ticket (view_of (start ++ front)) < free max (view_of (start ++ front)))

-- there are no more connections than the maximum
abbrev pub WithinMaximum : ℕ → List Mark → Type 0
WithinMaximum max marks = size (view_of marks) ≤ max

-- In a safe log no connection has two owners.
abbrev pub SafeLogsLendOnce : Type 0
SafeLogsLendOnce = (max : ℕ) (start marks : List Mark) → IsSafe max start marks → NoTwoOwners start marks

-- In a log in order tickets leave the line in turn.
abbrev pub OrderedLogsKeepTheLine : Type 0
OrderedLogsKeepTheLine = (max : ℕ) (start marks : List Mark) → IsOrdered max start marks → InTurn max start marks

-- A pool with a safe log keeps its maximum, where its start did.
abbrev pub SafeLogsKeepTheMaximum : Type 0
SafeLogsKeepTheMaximum = (max : ℕ) (start marks : List Mark) → WithinMaximum max start → IsSafe max start marks → WithinMaximum max (start ++ marks)

-- the mark keeps a connection that nobody owns: a new one
abbrev pub keeps_unowned : View → Option Mark → Bool
keeps_unowned v (Some (Kept c m)) = not (is_owned c v)
keeps_unowned v other = false

-- Behind logs of one view the same marks may follow, and then the views are one again; but marks that begin with the Kept of a connection without owner look at the last mark too.
pub record IsAlikeBehind (max : ℕ) (one two later : List Mark) : Type 0 where
  pub safe : keeps_unowned (view_of one) (first_of_marks later) ≡ false → IsSafe max one later → IsSafe max two later
  pub order : IsOrdered max one later → IsOrdered max two later
  pub views : view_of (one ++ later) ≡ view_of (two ++ later)

-- What may follow depends on the view alone.
abbrev pub ViewsTellTheFuture : Type 0
ViewsTellTheFuture = (max : ℕ) (one two later : List Mark) → view_of one ≡ view_of two → IsAlikeBehind max one two later

-- Two lists of marks say the same of a pool: its tickets, loans, idle and leaked connections, whether it is shut, the numbers that come next, and of each connection its owner and when it was opened.
pub record SaysTheSame (one two : List Mark) : Type 0 where
  pub tickets : tickets_of one ≡ tickets_of two
  pub loans : loans_of one ≡ loans_of two
  pub idle : idle_of one ≡ idle_of two
  pub leaked : leaked_of one ≡ leaked_of two
  pub shut : list_any is_shut one ≡ list_any is_shut two
  pub ticket_number : next_ticket one ≡ next_ticket two
  pub conn_number : next_conn one ≡ next_conn two
  pub owners : (conn : ℕ) → owner_of conn one ≡ owner_of conn two
  pub births : (conn : ℕ) → opened_at conn one ≡ opened_at conn two

-- Marks of one view say the same of a pool.
abbrev pub OneViewSaysTheSame : Type 0
OneViewSaysTheSame = (one two : List Mark) → view_of one ≡ view_of two → SaysTheSame one two
