-- Statements on connections, what they meet, and the one reply to each, read off the brackets of what came before.
use Rattle.std.specs.Prelude.{ℕ, suc, pred, ◌==◌, nat_lt, ℤ, Bool, true, false, not, ◌&&◌, is_some, if◌then◌else◌, Option, Some, None, List, [], ◌∷◌}
use Rattle.std.specs.List.{list_any}
use Rattle.sqlx_savepoints.specs.Changes.{opens, writes, commits, rolls_back, leaves, connection_of, History}
use Rattle.sqlx_savepoints.specs.Brackets.{depth, value}
use Rattle.sqlx_savepoints.specs.Standing.{is_zero}

-- what a client asks of a connection; a custom begin either starts a transaction or leaves none
pub data Act : Type 0 where
  begin : ℕ → Act
  custom : ℕ → Bool → Act
  put : ℕ → ℤ → ℤ → Act
  del : ℕ → ℤ → Act
  get : ℕ → ℤ → Act
  commit : ℕ → Act
  roll_back : ℕ → Act
  give_up : ℕ → Act

-- what its statement meets: nothing, a broken way, or a database that refuses
pub data Met : Type 0 where
  accepted : Met
  broken : Met
  refusing : Met

-- the reply to an act: the depth after it, how many rows were changed, the value that was read, or why it is refused
pub data Reply : Type 0 where
  level : ℕ → Reply
  ok : ℕ → Reply
  found : ℤ → Reply
  row_not_found : Reply
  not_held : Reply
  invalid_save_point : Reply
  begin_failed : Reply
  io : Reply
  refused : Reply
  deep : Reply
  busy : Reply

-- a client's act, whether it holds the connection, and what it meets; or a connection is closed, detached, leaked or reaped
pub data Event : Type 0 where
  asked : Act → Bool → Met → Event
  gone : ℕ → Event

-- whether another connection has an open bracket
abbrev pub others_open : ℕ → History → Bool
others_open c past = list_any (λ change. not (connection_of change == c) && not (is_zero (depth (connection_of change) past))) past

-- the reply to a read
abbrev pub read_reply : Option ℤ → Reply
read_reply (Some value) = found value
read_reply None = row_not_found

-- the reply where nothing is in the way
abbrev pub reply_here : Act → History → Reply
reply_here (begin c) past = if nat_lt (depth c past) 100 then level (suc (depth c past)) else deep
reply_here (custom c starts) past = if starts then level 1 else begin_failed
reply_here (put c key value) past = if others_open c past then busy else ok 1
reply_here (del c key) past = if others_open c past then busy else ok (if is_some (value c key past) then 1 else 0)
reply_here (get c key) past = read_reply (value c key past)
reply_here (commit c) past = level (pred (depth c past))
reply_here (roll_back c) past = level (pred (depth c past))
reply_here (give_up c) past = level (pred (depth c past))

-- the same where something is met
abbrev pub reply_met : Met → Act → History → Reply
reply_met accepted act past = reply_here act past
reply_met broken act past = io
reply_met refusing act past = refused

-- whether the act's connection must have an open bracket
abbrev pub needs_level : Act → Bool
needs_level (commit c) = true
needs_level (roll_back c) = true
needs_level (give_up c) = true
needs_level _ = false

-- whether the act is a custom begin
abbrev pub is_custom : Act → Bool
is_custom (custom c starts) = true
is_custom _ = false

-- the connection of which it is asked
abbrev pub connection_asked : Act → ℕ
connection_asked (begin c) = c
connection_asked (custom c starts) = c
connection_asked (put c key value) = c
connection_asked (del c key) = c
connection_asked (get c key) = c
connection_asked (commit c) = c
connection_asked (roll_back c) = c
connection_asked (give_up c) = c

-- the one reply: who holds it, then a custom begin inside a transaction, then what is met, then the act
abbrev pub reply_of : Act → Bool → Met → History → Reply
reply_of act held met past =
    if not held then not_held else
    (if needs_level act && is_zero (depth (connection_asked act) past) then not_held else
    (if is_custom act && not (is_zero (depth (connection_asked act) past)) then invalid_save_point else reply_met met act past))

-- what a reply to an act changes, put before what came earlier
abbrev pub change_by : Act → Reply → History → History
change_by (begin c) (level d) past = opens c ∷ past
change_by (custom c starts) (level d) past = opens c ∷ past
change_by (put c key value) (ok n) past = writes c key (Some value) ∷ past
change_by (del c key) (ok n) past = writes c key None ∷ past
change_by (commit c) (level d) past = commits c ∷ past
change_by (commit c) not_held past = past
change_by (commit c) _ past = rolls_back c ∷ past
change_by (roll_back c) not_held past = past
change_by (roll_back c) _ past = rolls_back c ∷ past
change_by (give_up c) (level d) past = rolls_back c ∷ past
change_by _ _ past = past

-- the history after an event
abbrev pub happened : Event → History → History
happened (asked act held met) past = change_by act (reply_of act held met past) past
happened (gone c) past = leaves c ∷ past

-- the history of events, the newest first, each answered by the one reply
abbrev pub answered : List Event → History
answered [] = []
answered (event ∷ earlier) = happened event (answered earlier)
