-- A query that is refused, and which database a URL opens.
use Rattle.std.proofs.Common.{◌≡◌, ◌⊎◌, ◌≤◌, ℕ, Bool, false, List, Ok, inr, sym, subst, ◌∙◌}
use Rattle.sqlite_value.specs.Order.{Row}
use Rattle.sqlx_text.specs.declared.error.Error.{Error}
use Rattle.sqlx_text.specs.declared.error.Error.TheVariants as error
use Rattle.sqlx_traits.specs.Faults.{HasRisen}
use Rattle.sqlite_base.specs.OpenedBase.{IsFile}
use Rattle.sqlite_base.specs.Queries.{RefusesQueryOn}
use Rattle.sqlite_base.specs.declared.base.Base.{Base}
use Rattle.sqlite_driver.specs.Does.{Pings}
use Rattle.sqlite_driver.specs.Opened.{IsNamed}
use Rattle.sqlite_driver.specs.Runs.{RefusesItems}
use Rattle.sqlite_driver.specs.declared.connection.SqliteConnection.{SqliteConnection}
use Rattle.sqlite_driver.proofs.TextLemmas.{risen_since}

-- once what was noted is rolled back a query is refused, or memory is wanting
pub refuses_settled : (text : List ℕ) (values : Row) (before settled after : SqliteConnection) (e : Error)
    → Pings before (Ok tt) settled → before.faults ≤ settled.faults → (e ≡ error.OutOfMemory) ⊎ RefusesQueryOn text values settled.base after.base e
    → after.goes_back_to ≡ settled.goes_back_to → HasRisen settled.faults after.faults → RefusesItems text values before e after
refuses_settled text values before settled after e is later refuses noted rose =
    inr (settled.base, is.0, refuses, noted ∙ is.1, risen_since before.faults settled.faults after.faults later rose)

-- a file, where the URL names no database in memory
pub named_file : (is : Bool) (base : Base) → is ≡ false → IsFile base → IsNamed is base
named_file is base none file = subst (λ b. IsNamed b base) (sym none) file
