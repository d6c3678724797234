use Rattle.std.proofs.Common.{◌+◌, inl, inr, ap, arith, ◌∙◌, refl}
use Rattle.std.proofs.lemmas.List.{length_push, take_all}
use Rattle.std.proofs.lemmas.Result.{err_from_is_err_and}
use Rattle.sqlx_any.specs.Native.{native_column}
use Rattle.sqlx_any.proofs.FormsLemmas.{all_of_more, all_of_stop}
use Rattle.sqlx_any.proofs.native.columns_from.Goals as goal

pub returns-in-Err-clause-forms : goal.returns-in-Err-clause-forms
returns-in-Err-clause-forms g c =
    let form_of = native_column g.DB.TypeInfo.TypeInfo.kind g.DB.TypeInfo.TypeInfo.named g.DB.Column.Column.at g.DB.Column.Column.named g.DB.Column.Column.typed in
    elim c.in-Err.ensures [
      | inl refused ↦ inl (all_of_stop form_of c.args.columns.now c.loop-column.column-index c.column-item.result c.loop-column-test.true c.column-item.is c.loop-column.forms.items c.loop-column.invariant.0 c.in-Err.error refused)
      | inr none ↦ inr none
    ]

pub loop-column-preserved : goal.loop-column-preserved
loop-column-preserved g c =
    let form_of = native_column g.DB.TypeInfo.TypeInfo.kind g.DB.TypeInfo.TypeInfo.named g.DB.Column.Column.at g.DB.Column.Column.named g.DB.Column.Column.typed in
    rw c.in_ok-keep-in-Ok.ensures (
      all_of_more form_of c.args.columns.now c.loop-column.column-index c.column-item.result c.loop-column-test.true c.column-item.is c.loop-column.forms.items c.loop-column.invariant.0 c.in-Ok.form c.in-Ok.ensures,
      length_push c.loop-column.forms.items c.in-Ok.form ∙ ap (λ n. n + 1) c.loop-column.invariant.1,
    )

pub loop-column-smaller : goal.loop-column-smaller
loop-column-smaller g c = omega arith

pub returns-in_err-keep-in-Ok-clause-forms : goal.returns-in_err-keep-in-Ok-clause-forms
returns-in_err-keep-in-Ok-clause-forms g c = let p = err_from_is_err_and c.from_residual.result c.from_residual.ensures.1 in rw (p.1, p.2) (inr refl)

pub returns-clause-forms : goal.returns-clause-forms
returns-clause-forms g c = rw (take_all c.loop-column.column-index c.args.columns.now c.loop-column-test.false) at c.loop-column.invariant.0

pub returns-clause-as_many : goal.returns-clause-as_many
returns-clause-as_many g c = omega (arith, c.loop-column.invariant.1)
