-- What stands in place of mapped rows where the arguments of the query can't be had.
use Rattle.std.proofs.Common.{◌≡◌, inl, inr, List, [], ◌∷◌, Option, Some, None, Result, Ok, Err, IfErr}
use Rattle.sqlx_text.specs.declared.error.Error.{Error}
use Rattle.sqlx_text.specs.declared.error.Error.TheVariants as error
use Rattle.sqlx_text.specs.declared.fault.Fault.{Fault}
use Rattle.sqlx_traits.specs.Reads.{Answers}
use Rattle.sqlx_traits.specs.StepList.{RunsNothing}
use Rattle.sqlx_query_rows.specs.Mapping.{MapsAll, ReadsOne, ReadsOptional}

-- the one error in place of the rows is the answer in place of all of them
all_of_one_error : {M R B V : Type 0} (seen : V → List B) (maps : M → R → Result B Error → M → Type 0) (e : Error) (start : M) (r : Result V Error)
    → MapsAll seen maps (Err e ∷ []) start r → Answers seen error.OutOfMemory (Err e) r
all_of_one_error seen maps e start (Ok v) (inl none) = absurd cc
all_of_one_error seen maps e start (Ok v) (inr (items, mapped, due)) = rw mapped at due
all_of_one_error seen maps e start (Err f) (inl none) = inr cc
all_of_one_error seen maps e start (Err f) (inr (items, mapped, inl due)) = inl (rw mapped at due)
all_of_one_error seen maps e start (Err f) (inr (items, mapped, inr none)) = inr none

pub unencoded_all : {S A M R B V : Type 0} (old new : S) (arguments : Result A Fault) (seen : V → List B) (maps : M → R → Result B Error → M → Type 0) (rows : List (Result R Error)) (start : M) (r : Result V Error)
    → IfErr arguments (RunsNothing old new (λ e. rows ≡ Err e ∷ [])) → MapsAll seen maps rows start r
    → IfErr arguments (RunsNothing old new (λ e. Answers seen error.OutOfMemory (Err e) r))
unencoded_all old new (Ok a) seen maps rows start r nothing all = tt
unencoded_all old new (Err fault) seen maps rows start r nothing all = (all_of_one_error seen maps _ start r (rw nothing.0 at all), nothing.1)

-- the error in place of a row is the answer
error_alone : {R B : Type 0} (read : R → Result B Error → Type 0) (e : Error) (row : Result R Error) (r : Result B Error) → row ≡ Err e → ReadsOne read row r → r ≡ Err e
error_alone read e (Ok row) r is made = absurd cc
error_alone read e (Err f) r is made = cc

pub unencoded_one : {S A R B : Type 0} (old new : S) (arguments : Result A Fault) (read : R → Result B Error → Type 0) (row : Result R Error) (r : Result B Error)
    → IfErr arguments (RunsNothing old new (λ e. row ≡ Err e)) → ReadsOne read row r → IfErr arguments (RunsNothing old new (λ e. r ≡ Err e))
unencoded_one old new (Ok a) read row r nothing made = tt
unencoded_one old new (Err fault) read row r nothing made = (error_alone read _ row r nothing.0 made, nothing.1)

error_optional : {R B : Type 0} (read : R → Result B Error → Type 0) (e : Error) (row : Result (Option R) Error) (r : Result (Option B) Error) → row ≡ Err e → ReadsOptional read row r → r ≡ Err e
error_optional read e (Ok None) r is made = absurd cc
error_optional read e (Ok (Some row)) r is made = absurd cc
error_optional read e (Err f) r is made = cc

pub unencoded_optional : {S A R B : Type 0} (old new : S) (arguments : Result A Fault) (read : R → Result B Error → Type 0) (row : Result (Option R) Error) (r : Result (Option B) Error)
    → IfErr arguments (RunsNothing old new (λ e. row ≡ Err e)) → ReadsOptional read row r → IfErr arguments (RunsNothing old new (λ e. r ≡ Err e))
unencoded_optional old new (Ok a) read row r nothing made = tt
unencoded_optional old new (Err fault) read row r nothing made = (error_optional read _ row r nothing.0 made, nothing.1)
