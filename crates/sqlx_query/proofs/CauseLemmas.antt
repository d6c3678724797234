-- Where the errors of mapped rows come from.
use Rattle.std.proofs.Common.{◌≡◌, ◌⊎◌, inl, inr, ℕ, List, [], ◌∷◌, Option, Some, None, Result, Ok, Err, IfErr, IfSome, rules, arith, subst}
use Rattle.sqlx_text.specs.declared.error.Error.{Error}
use Rattle.sqlx_text.specs.declared.error.Error.TheVariants as error
use Rattle.sqlx_text.specs.declared.fault.Fault.{Fault}
use Rattle.sqlx_traits.specs.StepList.{StepCause, StepCauses, first_error, or_error, values_of}
use Rattle.sqlx_query_rows.specs.Mapping.{MapsAll, MappedRows, ReadsAll, ReadsOne, Refused, RefusedBy, alike}

-- want of memory is no fault that is counted
memory : {A : Type 0} (n now : ℕ) (arguments : Result A Fault) → StepCause n now arguments error.OutOfMemory
memory n now (Ok arguments) = tt
memory n now (Err f) = inr tt

-- the cause of an error of mapped rows: the mapper refused, or the error is one of the rows
abbrev pub Cause : {M R B A : Type 0} → ℕ → ℕ → Result A Fault → (M → R → Result B Error → M → Type 0) → Error → Type 0
Cause n now arguments maps e = RefusedBy maps e ⊎ StepCause n now arguments e

cause_of_items : {M R B A : Type 0} (n now : ℕ) (arguments : Result A Fault) (maps : M → R → Result B Error → M → Type 0)
    (rows : List (Result R Error)) (start : M) (items : List (Result B Error))
    → StepCauses n now arguments rows → MappedRows maps rows start items → IfSome (first_error items) (λ e. Cause n now arguments maps e)
cause_of_items n now arguments maps [] start items causes mapped = rw mapped tt
cause_of_items n now arguments maps (Err f ∷ later) start items causes mapped = rw mapped (inr causes.0)
cause_of_items n now arguments maps (Ok row ∷ later) start items causes (Ok x, next, rest, made, others, is) = rw is (cause_of_items n now arguments maps later next rest causes others)
cause_of_items n now arguments maps (Ok row ∷ later) start items causes (Err f, next, rest, made, others, is) = rw is (inl (start, row, next, made))

cause_of_error : {X : Type 0} (P : Error → Type 0) (x : X) (first : Option Error) (e : Error) → IfSome first P → or_error x first ≡ Err e → P e
cause_of_error P x None e cause is = grind arith
cause_of_error P x (Some f) e cause is = grind arith

memory_alone : {M R B A : Type 0} (n now : ℕ) (arguments : Result A Fault) (maps : M → R → Result B Error → M → Type 0) (e : Error) → e ≡ error.OutOfMemory → Cause n now arguments maps e
memory_alone n now arguments maps e is = rw is (inr (memory n now arguments))

-- the error in place of all mapped rows
pub cause_of_all : {M R B V A : Type 0} (n now : ℕ) (arguments : Result A Fault) (seen : V → List B) (maps : M → R → Result B Error → M → Type 0)
    (rows : List (Result R Error)) (start : M) (r : Result V Error)
    → StepCauses n now arguments rows → MapsAll seen maps rows start r → IfErr r (λ e. RefusedBy maps e ⊎ StepCause n now arguments e)
cause_of_all n now arguments seen maps rows start (Ok v) causes all = search rules
cause_of_all n now arguments seen maps rows start (Err e) causes (inl none) = memory_alone n now arguments maps e (grind arith)
cause_of_all n now arguments seen maps rows start (Err e) causes (inr (items, mapped, inl due)) =
    cause_of_error (λ e. Cause n now arguments maps e) (values_of items) (first_error items) e (cause_of_items n now arguments maps rows start items causes mapped) due
cause_of_all n now arguments seen maps rows start (Err e) causes (inr (items, mapped, inr none)) = memory_alone n now arguments maps e none

-- the error in place of one row that is read
pub cause_of_one : {R B : Type 0} (read : R → Result B Error → Type 0) (Refuses C : Error → Type 0) → ((row : R) (e : Error) → read row (Err e) → Refuses e)
    → (row : Result R Error) (r : Result B Error) → IfErr row C → ReadsOne read row r → IfErr r (λ e. Refuses e ⊎ C e)
cause_of_one read Refuses C told (Ok row) (Ok x) cause is = tt
cause_of_one read Refuses C told (Ok row) (Err e) cause is = inl (told row e is)
cause_of_one read Refuses C told (Err f) (Ok x) cause is = tt
cause_of_one read Refuses C told (Err f) (Err e) cause is = let same : f ≡ e = cc is in inr (subst C same cause)

-- the cause of an error where each row is read alike
cause_of_read : {R B A : Type 0} (n now : ℕ) (arguments : Result A Fault) (read : R → Result B Error → Type 0) (e : Error)
    → RefusedBy (alike {M = Unit {0}} read) e ⊎ StepCause n now arguments e → Refused read e ⊎ StepCause n now arguments e
cause_of_read n now arguments read e (inl (before, row, after, refused)) = inl (row, refused)
cause_of_read n now arguments read e (inr cause) = inr cause

-- the error in place of all rows that are read
pub cause_of_reads : {R B V A : Type 0} (n now : ℕ) (arguments : Result A Fault) (seen : V → List B) (read : R → Result B Error → Type 0)
    (rows : List (Result R Error)) (r : Result V Error)
    → StepCauses n now arguments rows → ReadsAll seen read rows r → IfErr r (λ e. Refused read e ⊎ StepCause n now arguments e)
cause_of_reads n now arguments seen read rows (Ok v) causes all = search rules
cause_of_reads n now arguments seen read rows (Err e) causes all = cause_of_read n now arguments read e (cause_of_all n now arguments seen (alike read) rows tt (Err e) causes all)
