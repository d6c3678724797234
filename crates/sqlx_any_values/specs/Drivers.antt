-- Drivers, and which of them has a scheme.
use Rattle.std.specs.Prelude.{ℕ, List, ◌++◌, Bool, map, codes, position, if◌then◌else◌, Option, Some, None, Result, Ok, Err}
use Rattle.std.specs.List.{list_any}
use Rattle.std.specs.Str.{bytes_eq}
use Rattle.sqlx_text.specs.declared.error.Error.{Error}
use Rattle.sqlx_text.specs.declared.error.Error.TheVariants as error
use Rattle.sqlx_text.specs.declared.fault.Fault.TheVariants as fault
use Rattle.sqlx_traits.specs.Places.{in_quotes}
use Rattle.sqlx_any_values.specs.declared.driver.AnyDriver.{AnyDriver}

-- the schemes of a driver
abbrev pub schemes_of : AnyDriver → List (List ℕ)
schemes_of driver = map (λ scheme. scheme.now) driver.url_schemes.now

-- the driver has the scheme
abbrev pub has_scheme : List ℕ → AnyDriver → Bool
has_scheme scheme driver = list_any (λ own. bytes_eq scheme own.now) driver.url_schemes.now

-- the place of the first driver that has the scheme, where there is one
abbrev pub driver_of : List ℕ → List AnyDriver → Option ℕ
driver_of scheme drivers = position (has_scheme scheme) drivers

-- the refusal of a scheme that no driver has
abbrev pub no_driver : List ℕ → Error
no_driver scheme = error.Configuration (fault.Text (codes "no driver found for URL scheme " ++ in_quotes scheme))

-- a place, and the refusal of a scheme that no driver has
abbrev pub found_driver : List ℕ → Option ℕ → Result ℕ Error
found_driver scheme (Some at) = Ok at
found_driver scheme None = Err (no_driver scheme)

-- nothing where the scheme is the wanted one, and else the refusal of it
abbrev pub of_scheme : List ℕ → List ℕ → Result (Unit {0}) Error
of_scheme wanted scheme = if bytes_eq scheme wanted then Ok tt else Err (no_driver scheme)
