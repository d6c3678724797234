-- What opening a database in memory by a URL gives.
use Rattle.std.specs.Prelude.{ℕ, if◌then◌else◌, List, Result, Ok, Err, codes}
use Rattle.std.specs.Str.{bytes_eq}
use Rattle.sqlx_text.specs.declared.error.Error.{Error}
use Rattle.sqlx_text.specs.declared.error.Error.TheVariants as error
use Rattle.sqlx_traits.specs.Reads.{Answers}
use Rattle.sqlx_any_values.specs.Drivers.{no_driver}
use Rattle.sqlx_any.specs.declared.options.AnyConnectOptions.{AnyConnectOptions}
use Rattle.mem_store.specs.declared.answer.Answer.TheVariants.{Accept}
use Rattle.mem_store.specs.Store.{connected, new_link, new_store}
use Rattle.mem_driver.specs.Session.{Session, new_cache}

-- the first connection of a new database
abbrev pub first_session : Session
first_session = record { work = record { store = connected 1 new_store; link = new_link 1; answer = Accept }; cache = new_cache; faults = 0 }

-- what opening by a URL of this scheme is to give
abbrev pub opened_by : List ℕ → Result Session Error
opened_by scheme = if bytes_eq scheme (codes "mem") then Ok first_session else Err (no_driver scheme)

-- the first connection of a new database, the refusal of another scheme, or want of memory
abbrev pub Opens : AnyConnectOptions → Result Session Error → Type 0
Opens options result = Answers (λ session. session) error.OutOfMemory (opened_by options.database_url.scheme) result
