-- What a connection ends as on which a level couldn't be begun.
use Rattle.std.specs.Prelude.{◌≡◌, ◌<◌, ◌≤◌, ℕ, IfErr, IsSome, List, Option, Result, Err}
use Rattle.std.specs.Borrow.{Fml, GName, RattleType, MutBor, RestsIfErr}
use Rattle.sqlx_text.specs.declared.error.Error.{Error}
use Rattle.sqlx_traits.specs.Calls.{Call, Outcome, begin}
use Rattle.sqlx_traits.specs.Faults.{BeginCause}
use Rattle.sqlx_any.specs.contracts.connection.AnyConnection.{the_row}
use Rattle.sqlx_any.specs.declared.connection.AnyConnection.{AnyConnection}

-- what a refused begin by the statement leaves: what the driver says of it, with as many levels; inside of a level a statement leaves everything
abbrev pub RefusesLevel : {B : Type 0} → (Call → B → Outcome → B → Type 0) → (B → ℕ) → (B → ℕ) → Option (List ℕ) → B → B → Error → Type 0
RefusesLevel does levels faults statement before after e = does (begin statement) before (Err e) after × (levels after ≡ levels before)
    × (faults before ≤ faults after) × BeginCause (faults before) (faults after) e × (IsSome statement → 0 < levels before → after ≡ before)

-- where no level could be begun the connection ends as that, and else as what the reference under this name leaves
abbrev pub rests_refused : {H : Type 0} → (B : RattleType) → (Call → B.Denot → Outcome → B.Denot → Type 0) → (B.Denot → ℕ) → (B.Denot → ℕ) → Option (List ℕ)
    → MutBor (AnyConnection B.Denot) → Result H Error → (H → GName) → Fml
rests_refused B does levels faults statement s r name =
    RestsIfErr (the_row B) s name r (λ last. IfErr r (RefusesLevel does levels faults statement s.now.backend last.backend))
