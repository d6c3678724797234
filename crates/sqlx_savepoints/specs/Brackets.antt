-- Brackets read off a history: each write with its enclosing brackets and how each ended, and the value of the last write that survives for a reader. No text, no name and no list of levels is known here.
use Rattle.std.specs.Prelude.{ℕ, zero, suc, ◌==◌, ℤ, Bool, true, false, ◌&&◌, if◌then◌else◌, Option, None, List, [], ◌∷◌}
use Rattle.std.specs.List.{list_all}
use Rattle.std.specs.Ordering.{int_eq}
use Rattle.sqlx_savepoints.specs.Changes.{Change, opens, writes, commits, rolls_back, leaves, connection_of, History}

-- how a bracket stands: open, with so many open brackets of its connection inside it; committed; or rolled back
pub data Ending : Type 0 where
  open_around : ℕ → Ending
  committed : Ending
  rolled_back : Ending

-- a bracket after one more change of its own connection: what is newer and open ends before it
abbrev pub turned : Ending → Change → Ending
turned (open_around inner) (opens c) = open_around (suc inner)
turned (open_around zero) (commits c) = committed
turned (open_around (suc inner)) (commits c) = open_around inner
turned (open_around zero) (rolls_back c) = rolled_back
turned (open_around (suc inner)) (rolls_back c) = open_around inner
turned (open_around inner) (leaves c) = rolled_back
turned ending change = ending

-- a bracket of this connection after one more change of any
abbrev pub ended_by : ℕ → Ending → Change → Ending
ended_by c ending change = if connection_of change == c then turned ending change else ending

-- a bracket of this connection after these changes, the oldest first
abbrev pub ending_after : ℕ → Ending → List Change → Ending
ending_after c ending [] = ending
ending_after c ending (change ∷ changes) = ending_after c (ended_by c ending change) changes

-- how a bracket ended that was opened just before these changes
abbrev pub ending : ℕ → List Change → Ending
ending c changes = ending_after c (open_around 0) changes

-- whether a bracket is open
abbrev pub is_open : Ending → Bool
is_open (open_around inner) = true
is_open _ = false

-- whether a bracket was rolled back
abbrev pub is_rolled_back : Ending → Bool
is_rolled_back rolled_back = true
is_rolled_back _ = false

-- whether the change opens a bracket of this connection
abbrev pub is_opening : ℕ → Change → Bool
is_opening c (opens d) = d == c
is_opening c _ = false

-- how the brackets around a write of this connection ended: those that were opened before it, the newest first, and were open when it came
-- `between` came after the opening and before the write, `since` is all that came after the opening
abbrev pub endings_around : ℕ → List Change → List Change → History → List Ending
endings_around c between since [] = []
endings_around c between since (change ∷ past) =
    if is_opening c change && is_open (ending c between)
    then ending c since ∷ endings_around c (change ∷ between) (change ∷ since) past
    else endings_around c (change ∷ between) (change ∷ since) past

-- whether the reader sees through a bracket of this connection: it is committed, or open and the reader's own
abbrev pub sees_through : ℕ → ℕ → Ending → Bool
sees_through reader c (open_around inner) = reader == c
sees_through reader c committed = true
sees_through reader c rolled_back = false

-- whether a write of this connection survives for the reader; `since` is the write and all that came after it
abbrev pub survives : ℕ → ℕ → List Change → History → Bool
survives reader c since past = list_all (sees_through reader c) (endings_around c [] since past)

-- whether the change is a write of the key that survives for the reader
abbrev pub is_surviving : ℕ → ℤ → List Change → Change → History → Bool
is_surviving reader key later (writes c k value) past = survives reader c (writes c k value ∷ later) past && int_eq key k
is_surviving reader key later _ past = false

-- the value of a write
abbrev pub value_written : Change → Option ℤ
value_written (writes c k value) = value
value_written _ = None

-- the value of the last surviving write of the key in the past, when these changes came later
abbrev pub value_before : ℕ → ℤ → List Change → History → Option ℤ
value_before reader key later [] = None
value_before reader key later (change ∷ past) = if is_surviving reader key later change past then value_written change else value_before reader key (change ∷ later) past

-- the value of the key that the reader sees: that of the last surviving write, none where there is no such write
abbrev pub value : ℕ → ℤ → History → Option ℤ
value reader key history = value_before reader key [] history

-- how many brackets of the connection, opened in the past, are open after these later changes
abbrev pub depth_before : ℕ → List Change → History → ℕ
depth_before c later [] = 0
depth_before c later (change ∷ past) = if is_opening c change && is_open (ending c later) then suc (depth_before c (change ∷ later) past) else depth_before c (change ∷ later) past

-- the number of open brackets of the connection
abbrev pub depth : ℕ → History → ℕ
depth c history = depth_before c [] history
