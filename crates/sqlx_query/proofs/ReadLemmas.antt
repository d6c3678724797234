-- What reads each row alike, as a mapper that doesn't change.
use Rattle.std.proofs.Common.{inl, inr, List, [], ◌∷◌, Result, Ok, Err}
use Rattle.sqlx_text.specs.declared.error.Error.{Error}
use Rattle.sqlx_query_rows.specs.Mapping.{MapsAll, MappedRows, ReadsAll, alike}

rows_alike : {M R B : Type 0} (read : R → Result B Error → Type 0) (rows : List (Result R Error)) (start : M) (items : List (Result B Error))
    → MappedRows (alike {M = M} read) rows start items → MappedRows (alike {M = Unit {0}} read) rows tt items
rows_alike read [] start items mapped = mapped
rows_alike read (Err e ∷ later) start items mapped = mapped
rows_alike read (Ok row ∷ later) start items (Ok x, now, rest, made, others, is) = (Ok x, tt, rest, made, rows_alike read later now rest others, is)
rows_alike read (Ok row ∷ later) start items (Err e, now, rest, made, others, is) = (Err e, tt, rest, made, others, is)

-- the mapper's state tells nothing
pub reads_all : {M R B V : Type 0} (seen : V → List B) (read : R → Result B Error → Type 0) (rows : List (Result R Error)) (start : M) (r : Result V Error)
    → MapsAll seen (alike {M = M} read) rows start r → ReadsAll seen read rows r
reads_all seen read rows start r (inl none) = inl none
reads_all seen read rows start r (inr (items, mapped, due)) = inr (items, rows_alike read rows start items mapped, due)
