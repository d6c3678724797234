-- What a query gives, and the connection after it: in the words of the crate `sqlite`, where the disk has returned what was written.
use Rattle.std.specs.Prelude.{◌≡◌, ◌⊎◌, ℕ, Bool, List, [], ◌∷◌, map, Option, None, Ok, Err}
use Rattle.sqlite_value.specs.Order.{Row}
use Rattle.sqlx_text.specs.declared.error.Error.{Error}
use Rattle.sqlx_text.specs.declared.error.Error.TheVariants as error
use Rattle.sqlx_traits.specs.StepList.{Steps}
use Rattle.sqlx_any.specs.Rows.{RowParts}
use Rattle.sqlx_any.specs.declared.arguments.AnyArguments.{AnyArguments}
use Rattle.sqlx_any_values.specs.declared.query_result.AnyQueryResult.{AnyQueryResult}
use Rattle.sqlx_traits.specs.Faults.{HasRisen}
use Rattle.sqlite_base.specs.Ran.{Settled}
use Rattle.sqlite_driver.specs.Does.{StaysDue}
pub use Rattle.sqlite_base.specs.Queries.{taken, all_taken, given, Item, no_cells, with_cell, GainsCell, GainsCells, GainsRows, tells_of_rows, HasRows, no_count, IsPrepared, GivesRows, GivesCount, Gives, GivesOn, RefusesToPrepare, RefusesToShow, ShowsUnfit, RefusesToExecute, RefusesRows, RefusesQuery, RefusesQueryOn}
use Rattle.sqlite_base.specs.declared.base.Base.{Base}
use Rattle.sqlite_driver.specs.declared.connection.SqliteConnection.{SqliteConnection}

-- what was noted is rolled back, and then the text gave these items
abbrev pub GivesItems : List ℕ → Row → SqliteConnection → List Item → SqliteConnection → Type 0
GivesItems text values before items after = (settled : Base) × Settled before.goes_back_to before.base settled × GivesOn text values settled after.base items × (after.goes_back_to ≡ None)

-- what was noted is rolled back, and then the query gave nothing, which is counted: memory was wanting, or it was refused
abbrev pub DeniesItems : List ℕ → Row → SqliteConnection → Error → SqliteConnection → Type 0
DeniesItems text values before e after = (settled : Base) × Settled before.goes_back_to before.base settled × ((e ≡ error.OutOfMemory) ⊎ RefusesQueryOn text values settled after.base e)
    × (after.goes_back_to ≡ None) × HasRisen before.faults after.faults

-- the query gave nothing: what was noted is still due, or it is rolled back
abbrev pub RefusesItems : List ℕ → Row → SqliteConnection → Error → SqliteConnection → Type 0
RefusesItems text values before e after = StaysDue before e after ⊎ DeniesItems text values before e after

-- the text gave the list, or the list is its refusal alone; the depth stays
abbrev pub Runs : SqliteConnection → List ℕ → Bool → Option AnyArguments → Steps AnyQueryResult RowParts Error → SqliteConnection → Type 0
Runs before text kept arguments list after =
    (((items : List Item) × GivesItems text (all_taken arguments) before items after × (list ≡ map Ok items))
    ⊎ ((e : Error) × RefusesItems text (all_taken arguments) before e after × (list ≡ Err e ∷ [])))
    × (after.depth ≡ before.depth)
