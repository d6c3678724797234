use Rattle.std.proofs.Common.{ℕ, ◌≤◌, ◌-◌, length}
use Rattle.sqlx_steps.specs.Applies.{IsAtVersion}
use Rattle.sqlx_steps.proofs.StepLemmas.{AppliedSoFar}
use Rattle.sqlx_steps.proofs.apply.apply_on.Given as goal

-- the steps up to this version are applied
abbrev pub invariant-loop-version : goal.invariant-loop-version
invariant-loop-version g l = (n v : ℕ) → IsAtVersion l.steps n v (g.W.Work.store l.fn.work) (g.W.Work.link l.fn.work) → v ≤ length l.steps
    → AppliedSoFar l.steps n v l.upto l.fn.refuse l.version l.left (g.W.Work.store l.work) (g.W.Work.link l.work)

abbrev pub decreases-loop-version : goal.decreases-loop-version
decreases-loop-version g l = l.upto - l.version
