-- What a crowd leaves.
use Rattle.std.specs.Prelude.{◌≡◌, ℕ, List, []}
use Rattle.sqlx_pool_marks.specs.declared.mark.Mark.{Mark}
use Rattle.sqlx_pool_marks.specs.FairLog.{IsFair}
use Rattle.sqlx_pool_lists.specs.Balance.{lents}
use Rattle.sqlx_play_crowd.specs.LogText.{crowd_text}

-- the text of a log that is fair from the start for a pool of this maximum, with so many loans, and then their number
abbrev pub LeavesLog : ℕ → ℕ → List ℕ → Type 0
LeavesLog max loans text = (marks : List Mark) × IsFair max [] marks × (lents marks ≡ loans) × (text ≡ crowd_text marks)
