-- Mapped rows that are handed out one by one, and the list of all that were.
use Rattle.std.proofs.Common.{◌≡◌, List, [], ◌∷◌, ◌++◌, Some, None, Result, Ok, Err, refl, ap, append-nil, arith, inl, inr}
use Rattle.sqlx_text.specs.declared.error.Error.{Error}
use Rattle.sqlx_traits.specs.StepList.{all_of, first_error, values_of}
use Rattle.sqlx_query_rows.specs.Mapping.{MapsAll, MappedRows, NextRow}

-- the values that were made, with what comes behind them
abbrev pub made_then : {B : Type 0} → List B → List (Result B Error) → List (Result B Error)
made_then [] items = items
made_then (x ∷ made) items = Ok x ∷ made_then made items

-- items that come after those that were made are mapped rows of the whole list
abbrev pub After : {M R B : Type 0} → (M → R → Result B Error → M → Type 0) → List (Result R Error) → M → List B → List (Result R Error) → M → Type 0
After {B = B} maps whole start made rows now = (items : List (Result B Error)) → MappedRows maps rows now items → MappedRows maps whole start (made_then made items)

pub after_none : {M R B : Type 0} (maps : M → R → Result B Error → M → Type 0) (whole : List (Result R Error)) (start : M) → After maps whole start [] whole start
after_none maps whole start items mapped = mapped

made_then-append : {B : Type 0} (made : List B) (x : B) (items : List (Result B Error)) → made_then (made ++ x ∷ []) items ≡ made_then made (Ok x ∷ items)
made_then-append [] x items = refl
made_then-append (y ∷ made) x items = ap (λ rest. Ok y ∷ rest) (made_then-append made x items)

values_of-made_then : {B : Type 0} (made : List B) (items : List (Result B Error)) → values_of (made_then made items) ≡ made ++ values_of items
values_of-made_then [] items = refl
values_of-made_then (y ∷ made) items = ap (λ rest. y ∷ rest) (values_of-made_then made items)

first_error-made_then : {B : Type 0} (made : List B) (items : List (Result B Error)) → first_error (made_then made items) ≡ first_error items
first_error-made_then [] items = refl
first_error-made_then (y ∷ made) items = first_error-made_then made items

-- one more was made
pub after_next : {M R B : Type 0} (maps : M → R → Result B Error → M → Type 0) (whole : List (Result R Error)) (start : M) (made : List B) (rows rest : List (Result R Error)) (before now : M) (x : B)
    → After maps whole start made rows before → NextRow maps rows before (Some (Ok x)) rest now → After maps whole start (made ++ x ∷ []) rest now
after_next maps whole start made [] rest before now x after next = elim next [ ]
after_next maps whole start made (Err e ∷ later) rest before now x after next = grind arith
after_next maps whole start made (Ok row ∷ later) rest before now x after next = λ items mapped.
    rw (made_then-append made x items) (after (Ok x ∷ items) (Ok x, now, items, next.0, (rw next.1 at mapped), refl))

all_of-made : {B : Type 0} (made : List B) → all_of (made_then made []) ≡ Ok made
all_of-made made = rw (values_of-made_then made [], first_error-made_then made [], append-nil made)

all_of-refused : {B : Type 0} (made : List B) (e : Error) → all_of (made_then made (Err e ∷ [])) ≡ Err e
all_of-refused made e = rw (values_of-made_then made (Err e ∷ []), first_error-made_then made (Err e ∷ []))

-- all were made
pub all_made : {M R B V : Type 0} (seen : V → List B) (maps : M → R → Result B Error → M → Type 0) (whole : List (Result R Error)) (start : M) (made : V) (rows rest : List (Result R Error)) (before now : M)
    → After maps whole start (seen made) rows before → NextRow maps rows before None rest now → MapsAll seen maps whole start (Ok made)
all_made seen maps whole start made [] rest before now after next = inr (made_then (seen made) [], after [] refl, all_of-made (seen made))
all_made seen maps whole start made (Err e ∷ later) rest before now after next = elim next [ ]
all_made seen maps whole start made (Ok row ∷ later) rest before now after next = elim next [ ]

-- a refusal, or the error behind the rows
pub all_refused : {M R B V : Type 0} (seen : V → List B) (maps : M → R → Result B Error → M → Type 0) (whole : List (Result R Error)) (start : M) (made : List B) (rows rest : List (Result R Error)) (before now : M) (e : Error)
    → After maps whole start made rows before → NextRow maps rows before (Some (Err e)) rest now → MapsAll seen maps whole start (Err e)
all_refused seen maps whole start made [] rest before now e after next = elim next [ ]
all_refused seen maps whole start made (Err f ∷ later) rest before now e after next =
    inr (made_then made (Err e ∷ []), after (Err e ∷ []) (ap (λ r. r ∷ []) next.0), inl (all_of-refused made e))
all_refused seen maps whole start made (Ok row ∷ later) rest before now e after next =
    inr (made_then made (Err e ∷ []), after (Err e ∷ []) (Err e, now, [], next.0, refl, refl), inl (all_of-refused made e))
