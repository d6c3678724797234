use Rattle.std.proofs.Common.{◌≡◌, Err, refl, ℤ}
use Rattle.sqlx_text.specs.declared.fault.Fault.TheVariants as fault
use Rattle.sqlx_text.specs.declared.kind.AnyTypeInfoKind.{AnyTypeInfoKind}
use Rattle.sqlx_any_values.specs.Kinds.{kind_of}
use Rattle.sqlx_any_values.specs.TypedRead.{read_whole}
use Rattle.sqlx_any_values.specs.declared.value.AnyValueKind.{AnyValueKind}
use Rattle.sqlx_any_values.specs.declared.value.AnyValueKind.TheVariants as value
use Rattle.sqlx_any_values.proofs.types.int.whole.Goals as goal

no_number : (own : AnyTypeInfoKind) (low high : ℤ) (v : AnyValueKind)
    → ((n : ℤ) → v ≡ value.SmallInt n → ⊥) → ((n : ℤ) → v ≡ value.Integer n → ⊥) → ((n : ℤ) → v ≡ value.BigInt n → ⊥)
    → Err (fault.Unexpected own (kind_of v)) ≡ read_whole own low high v
no_number own low high (value.SmallInt n) small integer big = absurd (small n refl)
no_number own low high (value.Integer n) small integer big = absurd (integer n refl)
no_number own low high (value.BigInt n) small integer big = absurd (big n refl)
no_number own low high v small integer big = refl

pub returns-in_default : goal.returns-in_default
returns-in_default c =
    cc (no_number c.args.own c.args.low c.args.high c.args.value.now.kind c.in_default.not-SmallInt c.in_default.not-Integer c.in_default.not-BigInt)
