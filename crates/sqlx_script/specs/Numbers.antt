-- The words that are numbers or durations of this language alone.
use Rattle.std.specs.Prelude.{ℕ, List, [], ◌∷◌, if◌then◌else◌, Option, Some, None}
use Rattle.std.specs.Str.{bytes_eq}
use Rattle.sqlx_lines.specs.Numbers.{◌>>=◌, number_in, millis, nanos}

-- how many connects for the minimum succeed
abbrev pub opens : List ℕ → Option ℕ
opens = number_in 0 65536

-- how many idle connections a poll may test
abbrev pub tries : List ℕ → Option ℕ
tries = number_in 1 17

-- how many tests the letters of a poll answer
abbrev pub tests : List ℕ → Option ℕ
tests = number_in 0 65536

-- a duration in nanoseconds, or `-` for none
unfoldable pub limit_nanos : List ℕ → Option (Option ℕ)
limit_nanos word = if bytes_eq word (45 ∷ []) then Some None else (millis word >>= λ ms. Some (Some (nanos ms)))
