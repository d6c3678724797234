use Rattle.std.proofs.Common.{◌+◌, inl, inr, refl, ap, subst, ◌∙◌}
use Rattle.std.proofs.lemmas.List.{length_push, take_all}
use Rattle.sqlx_any.specs.Mapped.{AllGive}
use Rattle.sqlx_any.proofs.CellsLemmas.{all_give_more, first_refuses_at}
use Rattle.sqlx_any.proofs.row.AnyRow.map_from.Invariants.{Gives}
use Rattle.sqlx_any.proofs.row.AnyRow.map_from.Goals as goal

pub returns-in-Err : goal.returns-in-Err
returns-in-Err g c =
    elim c.in-Err.ensures [
      | inl refused ↦ inl (rw (← c.columns-column-items.ensures.columns) (first_refuses_at (Gives g c.args.row.now) c.columns-column-items.result.now c.loop-column.column-index c.column-item.result c.loop-column-test.true c.column-item.is c.loop-column.columns.items c.loop-column.values.items c.loop-column.invariant.0 c.in-Err.error refused))
      | inr none ↦ inr none
    ]

pub loop-column-preserved : goal.loop-column-preserved
loop-column-preserved g c =
    rw (c.in_ok-keep-in-Ok.ensures, c.in_ok-keep-in-Ok-2.ensures) (
      all_give_more (Gives g c.args.row.now) c.columns-column-items.result.now c.loop-column.column-index c.column-item.result c.loop-column-test.true c.column-item.is c.loop-column.columns.items c.loop-column.values.items c.loop-column.invariant.0 c.in-Ok.form c.in-Ok.value c.in-Ok.ensures,
      length_push c.loop-column.columns.items c.in-Ok.form ∙ ap (λ n. n + 1) c.loop-column.invariant.1,
      length_push c.loop-column.values.items c.in-Ok.value ∙ ap (λ n. n + 1) c.loop-column.invariant.2,
    )

pub returns : goal.returns
returns g c =
    rw (c.of.ensures, ← c.columns-column-items.ensures.columns) (
      refl,
      subst (λ columns. AllGive (Gives g c.args.row.now) columns c.loop-column.columns.items c.loop-column.values.items) (take_all c.loop-column.column-index c.columns-column-items.result.now c.loop-column-test.false) c.loop-column.invariant.0,
    )
