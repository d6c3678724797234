-- What a pool's calls answer, by its marks.
use Rattle.std.specs.Prelude.{ℕ, ◌==◌, Bool, false, not, ◌&&◌, ◌||◌, List, [], ◌∷◌, Option, Some, None, if◌then◌else◌}
use Rattle.std.specs.List.{list_any}
use Rattle.sqlx_pool_marks.specs.declared.mark.Mark.{Mark}
use Rattle.sqlx_pool_marks.specs.Marks.{PendingTicket, IdleEntry, owner_of, idle_of, opened_at, is_shut}
use Rattle.sqlx_pool_marks.specs.EventTable.{Limits, may_pass_at, is_old_since, closes_at}

-- this client is the owner
abbrev pub owns : ℕ → Option ℕ → Bool
owns k None = false
owns k (Some owner) = k == owner

-- a connection that this client gives back is kept, where the checks on it accept it
abbrev pub is_kept_at : Limits → List Mark → ℕ → ℕ → ℕ → Bool → Bool
is_kept_at limits marks client conn moment accepted = owns client (owner_of conn marks) && (accepted && not (closes_at limits marks conn moment))

-- the first that rests
abbrev pub first_conn : List IdleEntry → Option ℕ
first_conn [] = None
first_conn (r ∷ rest) = Some r.conn

-- the connection that is lent past the line
abbrev pub lent_past_at : ℕ → ℕ → List Mark → Option ℕ
lent_past_at max places marks = if may_pass_at max places marks then first_conn (idle_of marks) else None

-- there is such a ticket, and it stands in the line
abbrev pub waits_if : Option PendingTicket → Bool
waits_if None = false
waits_if (Some a) = not a.left
