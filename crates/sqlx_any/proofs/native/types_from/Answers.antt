use Rattle.std.proofs.Common.{arith, inl, inr, refl}
use Rattle.std.proofs.lemmas.List.{take_all}
use Rattle.std.proofs.lemmas.Result.{err_from_is_err_and}
use Rattle.sqlx_any.specs.Native.{native_type}
use Rattle.sqlx_any.proofs.FormsLemmas.{all_of_more, all_of_stop}
use Rattle.sqlx_any.proofs.native.types_from.Goals as goal

pub returns-in-Err : goal.returns-in-Err
returns-in-Err g c =
    let form_of = native_type g.T.TypeInfo.kind g.T.TypeInfo.named in
    elim c.in-Err.ensures [
      | inl refused ↦ inl (all_of_stop form_of c.args.types.now c.loop-ty.ty-index c.ty-item.result c.loop-ty-test.true c.ty-item.is c.loop-ty.forms.items c.loop-ty.invariant c.in-Err.error refused)
      | inr none ↦ inr none
    ]

pub loop-ty-preserved : goal.loop-ty-preserved
loop-ty-preserved g c =
    let form_of = native_type g.T.TypeInfo.kind g.T.TypeInfo.named in
    rw c.in_ok-keep-in-Ok.ensures (all_of_more form_of c.args.types.now c.loop-ty.ty-index c.ty-item.result c.loop-ty-test.true c.ty-item.is c.loop-ty.forms.items c.loop-ty.invariant c.in-Ok.form c.in-Ok.ensures)

pub loop-ty-smaller : goal.loop-ty-smaller
loop-ty-smaller g c = omega arith

pub returns-in_err-keep-in-Ok : goal.returns-in_err-keep-in-Ok
returns-in_err-keep-in-Ok g c = let p = err_from_is_err_and c.from_residual.result c.from_residual.ensures.1 in rw (p.1, p.2) (inr refl)

pub returns : goal.returns
returns g c = rw (take_all c.loop-ty.ty-index c.args.types.now c.loop-ty-test.false) at c.loop-ty.invariant
