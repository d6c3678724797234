use Rattle.std.proofs.Common.{◌≡◌, ◌∙◌, ℕ, zero, suc, ap, sym, refl}
use Rattle.sqlx_savepoints.specs.declared.level_text.LevelText.TheVariants.{Savepoint}
use Rattle.sqlx_savepoints.specs.Texts.{begin_at}
use Rattle.sqlx_savepoints.proofs.ansi.begin_ansi_transaction_sql.Goals.{then-depth-eq0, else-depth-eq0}
use Rattle.sqlx_savepoints.proofs.ansi.begin_ansi_transaction_sql.Goals as goal

inner : (d : ℕ) → (d ≡ 0 → ⊥) → Savepoint d ≡ begin_at d
inner zero n = absurd (n refl)
inner (suc d) n = refl

pub returns : goal.returns
returns c =
    let level : c.if-depth-eq0.level ≡ begin_at c.args.depth = elim c.if-depth-eq0.branch [
      | then-depth-eq0 w ↦ w.level-is ∙ ap begin_at (sym w.if-depth-eq0.true)
      | else-depth-eq0 w ↦ w.level-is ∙ inner _ w.if-depth-eq0.false
    ] in
    rw level at c.statement.ensures
