use Rattle.std.proofs.Common.{◌≡◌, ◌∙◌, ℕ, zero, suc, ◌-◌, ◌≤◌, ap, sym, refl, arith}
use Rattle.sqlx_savepoints.specs.declared.level_text.LevelText.TheVariants.{Release}
use Rattle.sqlx_savepoints.specs.Texts.{commit_at}
use Rattle.sqlx_savepoints.proofs.ansi.commit_ansi_transaction_sql.Goals.{then-depth-eq1, else-depth-eq1}
use Rattle.sqlx_savepoints.proofs.ansi.commit_ansi_transaction_sql.Goals as goal

inner : (d : ℕ) → 1 ≤ d → (d ≡ 1 → ⊥) → Release (d - 1) ≡ commit_at d
inner zero l n = absurd (omega (arith, l))
inner (suc zero) l n = absurd (n refl)
inner (suc (suc d)) l n = ap Release (omega arith)

pub returns : goal.returns
returns c =
    let level : c.if-depth-eq1.level ≡ commit_at c.args.depth = elim c.if-depth-eq1.branch [
      | then-depth-eq1 w ↦ w.level-is ∙ ap commit_at (sym w.if-depth-eq1.true)
      | else-depth-eq1 w ↦ w.level-is ∙ inner _ c.requires w.if-depth-eq1.false
    ] in
    rw level at c.statement.ensures
