-- What a cut leaves of the log of one of a family's pools.
use Rattle.std.specs.Prelude.{ℕ, ◌+◌, ◌-◌, ◌==◌, List, if◌then◌else◌, length}
use Rattle.sqlx_pool_marks.specs.declared.mark.Mark.{Mark}
use Rattle.sqlx_pool_marks.specs.Cut.{needed_of}
use Rattle.sqlx_pool_lists.specs.declared.shared.Shared.{Shared}
use Rattle.sqlx_pool_lists.specs.Balance.{lents}
use Rattle.sqlx_pool_parts.specs.declared.log_start.LogStart.{LogStart}
use Rattle.sqlx_family.specs.Pools.{Pools}
use Rattle.sqlx_family.specs.FamilyLogs.{StandTogether, Numbered}

-- the marks of a pool's log that later ones still look at, where these numbers come next in the family
abbrev pub cut_in : Shared → List Mark → List Mark
cut_in shared marks = needed_of shared.next_ticket shared.next_conn marks

-- the start of a log of these marks behind a cut of it: what was left is the start, and the loans that it tells no more are forgotten
abbrev pub start_cut : LogStart → List Mark → List Mark → LogStart
start_cut start marks left = record start { len = length left; lent_before = start.lent_before + (lents marks - lents left) }

-- the logs by the pools' names, with that of one pool cut
abbrev pub with_cut : Shared → ℕ → (ℕ → List Mark) → ℕ → List Mark
with_cut shared q logs p = if p == q then cut_in shared (logs p) else logs p

-- Whatever logs the pools stand for, they stand for them with that of one pool cut, and where the next numbers were one more than the greatest, they are.
abbrev pub FamilyCuts : {C : Type 0} → Pools C → ℕ → Type 0
FamilyCuts f q = (logs : ℕ → List Mark) → StandTogether f logs → StandTogether f (with_cut f.shared q logs) × (Numbered f logs → Numbered f (with_cut f.shared q logs))
