-- What a rollback text counts.
use Rattle.std.proofs.Common.{ℕ, zero, suc, ◌≤◌, arith}
use Rattle.sqlx_savepoints.specs.Texts.{rollback_at}
use Rattle.mem_store.specs.Undo.{Undo, Counts, CountsFall}

-- the rollback text of any depth
pub rollback_counts : (depth before now : ℕ) (old new : Undo) → 1 ≤ depth → Counts (rollback_at depth) before old now new → CountsFall before old now new
rollback_counts zero before now old new some counts = absurd (omega arith)
rollback_counts (suc zero) before now old new some counts = counts
rollback_counts (suc (suc depth)) before now old new some counts = counts
