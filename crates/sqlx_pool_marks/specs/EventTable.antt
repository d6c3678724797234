-- When a connection is kept, lent without a ticket, reaped, or opened for the minimum, and how far a pool is closed.
use Rattle.std.specs.Prelude.{ℕ, ◌+◌, ◌-◌, ◌^◌, Bool, false, not, ◌&&◌, ◌||◌, ◌==◌, nat_lt, min, List, [], Option, Some, None, if◌then◌else◌, option_map, find, filter, map, length}
use Rattle.std.specs.List.{list_any}
use Rattle.sqlx_pool_marks.specs.declared.mark.Mark.{Mark}
use Rattle.sqlx_pool_marks.specs.Marks.{IdleEntry, tickets_of, loans_of, idle_of, leaked_of, opened_at, is_shut, next_conn}
use Rattle.sqlx_pool_marks.specs.Counts.{waiting_in, left_in, free_of}

-- The limits of a pool: how many connections it has at most and is kept up to, and how old one may be and for how long idle.
pub record Limits : Type 0 where
  pub max_connections : ℕ
  pub min_connections : ℕ
  pub max_lifetime : Option ℕ
  pub idle_timeout : Option ℕ

-- the duration is above its limit, strictly; without a limit none is
abbrev pub is_beyond : Option ℕ → ℕ → Bool
is_beyond None duration = false
is_beyond (Some limit) duration = nat_lt limit duration

-- a connection that was opened at `created` is too old at the moment
abbrev pub is_too_old : Limits → ℕ → ℕ → Bool
is_too_old limits created moment = is_beyond limits.max_lifetime (moment - created)

-- a connection that rests since `since` is idle for too long at the moment
abbrev pub is_idle_too_long : Limits → ℕ → ℕ → Bool
is_idle_too_long limits since moment = is_beyond limits.idle_timeout (moment - since)

-- an idle connection is reaped
abbrev pub is_reaped : Limits → ℕ → ℕ → ℕ → Bool
is_reaped limits created since moment = is_idle_too_long limits since moment || is_too_old limits created moment

-- a connection that comes back is closed rather than kept: the pool is closed, or it is too old
abbrev pub closes : Limits → Bool → ℕ → ℕ → Bool
closes limits shut created moment = shut || is_too_old limits created moment

-- connections may be lent, reaped or opened past the line: the pool is open, and fewer tickets wait than permits are free
abbrev pub may_pass : Bool → ℕ → ℕ → Bool
may_pass shut waiting free = not shut && nat_lt waiting free

-- a connection may be opened for this minimum
abbrev pub may_open : Bool → ℕ → ℕ → ℕ → ℕ → ℕ → ℕ → Bool
may_open shut waiting free size minimum maximum next_conn =
    may_pass shut waiting free && nat_lt size (min minimum maximum) && not (nat_lt (2 ^ 63) next_conn)

-- how many connections may be opened for this minimum, one behind the other
abbrev pub lacking : Bool → ℕ → ℕ → ℕ → ℕ → ℕ → ℕ → ℕ
lacking shut waiting free size minimum maximum next_conn =
    if may_pass shut waiting free then min (min minimum maximum - size) (2 ^ 63 + 1 - next_conn) else 0

-- of a closed pool nothing is out: no connection is owned or leaked, and every ticket has ended
abbrev pub is_all_in : ℕ → ℕ → ℕ → Bool
is_all_in owned leaked tickets = owned + leaked + tickets == 0

-- ---- by the marks

-- the free permits of a pool of this maximum that holds so many places for the minimum
abbrev pub free_at : ℕ → ℕ → List Mark → ℕ
free_at max places marks = free_of max (length (loans_of marks)) (leaked_of marks) (left_in (tickets_of marks)) places

-- the connections that there are or may be, in a pool that holds so many places
abbrev pub size_at : ℕ → List Mark → ℕ
size_at places marks = length (idle_of marks) + length (loans_of marks) + leaked_of marks + left_in (tickets_of marks) + places

-- connections may be lent, reaped or opened past the line
abbrev pub may_pass_at : ℕ → ℕ → List Mark → Bool
may_pass_at max places marks = may_pass (list_any is_shut marks) (waiting_in (tickets_of marks)) (free_at max places marks)

-- a connection that was opened then is too old at the moment
abbrev pub is_old_since : Limits → Option ℕ → ℕ → Bool
is_old_since limits None moment = false
is_old_since limits (Some created) moment = is_too_old limits created moment

-- a connection that comes back is closed rather than kept
abbrev pub closes_at : Limits → List Mark → ℕ → ℕ → Bool
closes_at limits marks conn moment = list_any is_shut marks || is_old_since limits (opened_at conn marks) moment

-- an idle connection is beyond the idle limit or the lifetime
abbrev pub is_beyond_at : Limits → ℕ → List Mark → IdleEntry → Bool
is_beyond_at limits moment marks r = is_idle_too_long limits r.since moment || is_old_since limits (opened_at r.conn marks) moment

-- the connection that rests
abbrev pub entry_conn : IdleEntry → ℕ
entry_conn r = r.conn

-- the first idle connection that is beyond a limit, where reaping applies
abbrev pub reaped_at : Limits → ℕ → List Mark → ℕ → Option ℕ
reaped_at limits places marks moment =
    if may_pass_at limits.max_connections places marks then option_map entry_conn (find (is_beyond_at limits moment marks) (idle_of marks)) else None

-- all idle connections that are beyond a limit, where reaping applies
abbrev pub all_reaped_at : Limits → ℕ → List Mark → ℕ → List IdleEntry
all_reaped_at limits places marks moment = if may_pass_at limits.max_connections places marks then filter (is_beyond_at limits moment marks) (idle_of marks) else []

-- one more connection may be opened for this minimum
abbrev pub has_place_at : Limits → ℕ → List Mark → ℕ → Bool
has_place_at limits places marks minimum =
    may_open (list_any is_shut marks) (waiting_in (tickets_of marks)) (free_at limits.max_connections places marks) (size_at places marks) minimum limits.max_connections (next_conn marks)

-- how many connections the pool lacks of its minimum
abbrev pub lacking_at : Limits → ℕ → List Mark → ℕ
lacking_at limits places marks =
    lacking (list_any is_shut marks) (waiting_in (tickets_of marks)) (free_at limits.max_connections places marks) (size_at places marks) limits.min_connections limits.max_connections (next_conn marks)

-- the connections that a close gives back: all idle ones at the first, none later
abbrev pub closed_at : List Mark → List ℕ
closed_at marks = if list_any is_shut marks then [] else map entry_conn (idle_of marks)

-- nothing of the pool is out
abbrev pub is_all_in_at : List Mark → Bool
is_all_in_at marks = is_all_in (length (loans_of marks)) (leaked_of marks) (length (tickets_of marks))
