use Rattle.std.proofs.Common.{◌≡◌, ◌∙◌, ℕ, zero, suc, ◌-◌, ◌≤◌, ap, sym, refl, arith}
use Rattle.sqlx_savepoints.specs.declared.level_text.LevelText.TheVariants.{RollbackTo}
use Rattle.sqlx_savepoints.specs.Texts.{rollback_at}
use Rattle.sqlx_savepoints.proofs.ansi.rollback_ansi_transaction_sql.Goals.{then-depth-eq1, else-depth-eq1}
use Rattle.sqlx_savepoints.proofs.ansi.rollback_ansi_transaction_sql.Goals as goal

inner : (d : ℕ) → 1 ≤ d → (d ≡ 1 → ⊥) → RollbackTo (d - 1) ≡ rollback_at d
inner zero l n = absurd (omega (arith, l))
inner (suc zero) l n = absurd (n refl)
inner (suc (suc d)) l n = ap RollbackTo (omega arith)

pub returns : goal.returns
returns c =
    let level : c.if-depth-eq1.level ≡ rollback_at c.args.depth = elim c.if-depth-eq1.branch [
      | then-depth-eq1 w ↦ w.level-is ∙ ap rollback_at (sym w.if-depth-eq1.true)
      | else-depth-eq1 w ↦ w.level-is ∙ inner _ c.requires w.if-depth-eq1.false
    ] in
    rw level at c.statement.ensures
