-- What a query is: a text or a prepared statement, and its arguments.
use Rattle.std.specs.Prelude.{◌≡◌, ℕ, List, Bool, true, false, Option, Some, None, Result, Ok, Err}
use Rattle.std.specs.Borrow.{Bor}
use Rattle.either.specs.declared.Either.{Either}
use Rattle.either.specs.declared.Either.TheVariants.{Left, Right}
use Rattle.sqlx_text.specs.declared.fault.Fault.{Fault}
use Rattle.sqlx_traits.specs.Handed.{Handed}

-- a text, the statement that was prepared of it if one was, its arguments or why they can't be had, and whether its statement is to be kept
pub record Asked (S A : Type 0) : Type 0 where
  pub text : List ℕ
  pub prepared : Option S
  pub arguments : Result (Option A) Fault
  pub kept : Bool

-- the text of a query: its own, or that of its statement
abbrev pub text_of : {S : Type 0} → (S → List ℕ) → Either (List ℕ) (Bor S) → List ℕ
text_of text (Left sql) = sql
text_of text (Right statement) = text statement.now

-- the statement of a query, if it has one
abbrev pub statement_of : {S : Type 0} → Either (List ℕ) (Bor S) → Option S
statement_of (Left sql) = None
statement_of (Right statement) = Some statement.now

-- arguments that are there, or why they can't be had
abbrev pub given_arguments : {A : Type 0} → Result A Fault → Result (Option A) Fault
given_arguments (Ok arguments) = Ok (Some arguments)
given_arguments (Err fault) = Err fault

-- the arguments as the driver takes them, where there are some
abbrev pub turned : {A B : Type 0} → (A → B) → Result (Option A) Fault → Result (Option B) Fault
turned becomes (Ok (Some arguments)) = Ok (Some (becomes arguments))
turned becomes (Ok None) = Ok None
turned becomes (Err fault) = Err fault

-- what a query hands to an executor
abbrev pub handed_over : {S A B : Type 0} → (A → B) → Asked S A → Handed B
handed_over becomes query = record { text = query.text; arguments = turned becomes query.arguments; persistent = query.kept }

-- a query of a text or a statement with these arguments, whose statement is to be kept
abbrev pub fresh_query : {S A : Type 0} → List ℕ → Option S → Result A Fault → Asked S A
fresh_query text prepared arguments = record { text = text; prepared = prepared; arguments = given_arguments arguments; kept = true }

-- such a query to which no argument is bound yet
abbrev pub BeginsEmpty : {S A : Type 0} → (A → ℕ) → List ℕ → Option S → Asked S A → Type 0
BeginsEmpty {A = A} count text prepared query = (arguments : A) × (count arguments ≡ 0) × (query ≡ fresh_query text prepared (Ok arguments))

-- the arguments of a query that has none
abbrev pub no_arguments : (A : Type 0) → Result (Option A) Fault
no_arguments A = Ok None

-- what statements that are run as they stand hand to an executor
abbrev pub handed_raw : {A : Type 0} → List ℕ → Handed A
handed_raw {A = A} text = record { text = text; arguments = no_arguments A; persistent = false }
