use Rattle.std.proofs.Common.{◌≡◌, ℕ, ◌<◌, ◌-◌, take}
use Rattle.sqlx_savepoints.specs.Rows.{Rows}
use Rattle.sqlx_steps_rules.specs.Rules.{all_changed}
use Rattle.sqlx_steps.specs.AtWork.{IsWithin}
use Rattle.sqlx_steps.proofs.apply.run_statements.Given as goal

-- the statements before this one ran
abbrev pub invariant-loop-write : goal.invariant-loop-write
invariant-loop-write g l = record {
  within : (n : ℕ) (before rows : Rows) → IsWithin (g.W.Work.store l.initial.work) (g.W.Work.link l.initial.work) n before rows
      → IsWithin (g.W.Work.store l.work) (g.W.Work.link l.work) n before (all_changed (take l.write-index l.statements) rows) × (0 < l.initial.left → l.write-index < l.initial.left);
  left : l.left ≡ l.initial.left - l.write-index;
}
