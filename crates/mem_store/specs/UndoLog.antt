-- How savepoints are held without copies: what changed since is noted, and one is the own writes with the changes behind it undone.
use Rattle.std.specs.Prelude.{ℤ, ℕ, ◌≤◌, ◌==◌, nat_lt, is_some, if◌then◌else◌, Option, Some, None, List, [], ◌∷◌, length, map}
use Rattle.std.specs.FinMap.{FinMap, get, insert, remove}
use Rattle.std.specs.Ordering.{int_cmp}
use Rattle.sqlx_savepoints.specs.Rows.{Rows, Writes}
use Rattle.sqlx_savepoints.specs.NamedSavepoints.{Entry}
use Rattle.mem_store.specs.declared.saved.Saved.{Saved}
use Rattle.mem_store.specs.declared.saved.Change.{Change}
use Rattle.mem_store.specs.declared.saved.Overwrite.{Overwrite}

-- what stood at the key is put back: nothing, or a value in place of the one that is there
abbrev pub put_back : {X : Type 0} → ℤ → Option X → FinMap int_cmp X → FinMap int_cmp X
put_back key None values = remove values key
put_back key (Some value) values = if is_some (get values key) then insert values key value else values

-- the own writes as they stood when so many changes were noted; the newest is noted first
abbrev pub as_of : ℕ → List Change → Writes → Writes
as_of mark [] own = own
as_of mark (change ∷ older) own = if nat_lt (length older) mark then own else as_of mark older (put_back change.key change.before own)

-- a savepoint as the writes that stood at it
abbrev pub entry_at : Writes → List Change → Saved → Entry
entry_at own changes saved = record { name = saved.name; own = as_of saved.mark changes own }

-- the savepoints, the newest first
abbrev pub entries_at : Writes → List Change → List Saved → List Entry
entries_at own changes saved = map (entry_at own changes) saved

-- no savepoint is marked later than a newer one, and none later than now
abbrev pub AreMarked : ℕ → List Saved → Type 0
AreMarked now [] = Unit {0}
AreMarked now (top ∷ older) = (top.mark ≤ now) × AreMarked top.mark older

-- the savepoints from the newest one of the name on, and its mark; none where no savepoint has the name
abbrev pub from_name : ℕ → List Saved → List Saved
from_name name [] = []
from_name name (top ∷ older) = if name == top.name then top ∷ older else from_name name older

-- the mark of the newest of these savepoints, none where there is none
abbrev pub first_mark : List Saved → Option ℕ
first_mark [] = None
first_mark (top ∷ older) = Some top.mark

-- ---- rows that are written in place

-- the rows as they stood before these overwrites, the newest first
abbrev pub unwritten : List Overwrite → Rows → Rows
unwritten [] rows = rows
unwritten (newest ∷ older) rows = unwritten older (put_back newest.key newest.before rows)

-- the rows after the values among these writes were inserted
abbrev pub values_inserted : List (ℤ × Option ℤ) → Rows → Rows
values_inserted [] rows = rows
values_inserted ((key, Some value) ∷ writes) rows = values_inserted writes (insert rows key value)
values_inserted ((key, None) ∷ writes) rows = values_inserted writes rows

-- the rows after the deletions among these writes were done
abbrev pub deletions_done : List (ℤ × Option ℤ) → Rows → Rows
deletions_done [] rows = rows
deletions_done ((key, Some value) ∷ writes) rows = deletions_done writes rows
deletions_done ((key, None) ∷ writes) rows = deletions_done writes (remove rows key)
