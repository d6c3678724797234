use Rattle.std.proofs.Common.{◌≡◌, Ok, map, take}
use Rattle.sqlx_traits.specs.StepList.{all_of}
use Rattle.sqlx_any.specs.Native.{native_type}
use Rattle.sqlx_any.proofs.native.types_from.Given as goal

abbrev pub invariant-loop-ty : goal.invariant-loop-ty
invariant-loop-ty g l = all_of (map (native_type g.T.TypeInfo.kind g.T.TypeInfo.named) (take l.ty-index l.types)) ≡ Ok l.forms.items
