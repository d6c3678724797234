-- What a statement tells of its parameters.
use Rattle.std.specs.Prelude.{ℕ, List, Option, Some, None}
use Rattle.std.specs.Borrow.{Bor}
use Rattle.either.specs.declared.Either.{Either}
use Rattle.either.specs.declared.Either.TheVariants.{Left, Right}

-- their types, or how many there are, or nothing
abbrev pub Parameters : Type 0 → Type 0
Parameters I = Option (Either (List I) ℕ)

-- what is seen through a reference to the types
abbrev pub parameters_seen : {I : Type 0} → Option (Either (Bor (List I)) ℕ) → Parameters I
parameters_seen None = None
parameters_seen (Some (Left types)) = Some (Left types.now)
parameters_seen (Some (Right count)) = Some (Right count)
