-- A value that is bound and then read at its own type.
use Rattle.std.specs.Prelude.{◌≡◌, Bool, List, [], ◌∷◌, ◌++◌, Result, Ok}
use Rattle.sqlx_text.specs.declared.fault.Fault.{Fault}
use Rattle.sqlx_traits.specs.Reads.{Reads}
use Rattle.sqlx_any_values.specs.declared.value.AnyValue.{AnyValue}
use Rattle.sqlx_any_values.specs.declared.value.AnyValueKind.{AnyValueKind}

-- binding x adds one value behind the others, and what is read of that, checked or not, alone or in a row, is x again, or there is no memory
abbrev pub ReadsBack : {T A : Type 0} → (T → List AnyValueKind → List AnyValueKind) → (Bool → Bool → AnyValue → Result T Fault → Type 0) → (T → A) → T → Type 0
ReadsBack {T = T} encoded reads seen x = (value : AnyValueKind)
    × ((list : List AnyValueKind) → encoded x list ≡ list ++ value ∷ [])
    × ((is_checked in_row : Bool) (r : Result T Fault) → reads is_checked in_row (record { kind = value }) r → Reads seen (Ok (seen x)) r)
