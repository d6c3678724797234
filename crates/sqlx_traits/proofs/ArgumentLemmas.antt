-- Arguments that are kept as a list, the newest at its end.
use Rattle.std.proofs.Common.{List, [], ◌∷◌, ◌++◌, length, take}
use Rattle.std.proofs.lemmas.List.{length-append, take-append-le}
use Rattle.sqlx_traits.specs.Arguments.{AddsOne}

-- an argument at the end is one more
pub adds_one : {A : Type 0} (xs : List A) (x : A) → AddsOne length take xs (xs ++ x ∷ [])
adds_one xs x = (length-append xs (x ∷ []), λ n enough. take-append-le n xs (x ∷ []) enough)
