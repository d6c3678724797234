-- What the words of a command line ask for.
use Rattle.std.specs.Prelude.{ℕ, ◌^◌, ◌≤◌, ⊤, List, [], ◌∷◌, codes, if◌then◌else◌, Option, Some}
use Rattle.std.specs.Str.{bytes_eq}
use Rattle.sqlx_lines.specs.Numbers.{number_in}
use Rattle.sqlx_play_program.specs.declared.command.Command.{Command}
use Rattle.sqlx_play_program.specs.declared.command.Command.TheVariants.{Play, Make, Crowd, Unknown}

-- the made script of so many lines for this seed, where both are numbers in their ranges
abbrev pub make_of : Option ℕ → Option ℕ → Command
make_of (Some lines) (Some seed) = Make lines seed
make_of _ _ = Unknown

-- what `make` and these two words ask for: a number from 1 to 10,000 and one below 2^31
abbrev pub made_by : List ℕ → List ℕ → Command
made_by lines seed = make_of (number_in 1 10001 lines) (number_in 0 (2 ^ 31) seed)

-- a crowd of so many workers with so many loans each, on a pool of this maximum, where all three are numbers in their ranges
abbrev pub crowd_of : Option ℕ → Option ℕ → Option ℕ → Command
crowd_of (Some workers) (Some loans) (Some maximum) = Crowd workers loans maximum
crowd_of _ _ _ = Unknown

-- what `crowd` and these three words ask for: a number from 1 to 16, one from 1 to 1,000 and one from 1 to 16
abbrev pub crowded_by : List ℕ → List ℕ → List ℕ → Command
crowded_by workers loans maximum = crowd_of (number_in 1 17 workers) (number_in 1 1001 loans) (number_in 1 17 maximum)

-- What the words ask for: none, to play the script of the source; `make N X`, to play the made script; `crowd W N M`, to let a crowd work; any others are none that the program knows.
abbrev pub command_of : List (List ℕ) → Command
command_of [] = Play
command_of (word ∷ lines ∷ seed ∷ []) = if bytes_eq word (codes "make") then made_by lines seed else Unknown
command_of (word ∷ workers ∷ loans ∷ maximum ∷ []) = if bytes_eq word (codes "crowd") then crowded_by workers loans maximum else Unknown
command_of _ = Unknown

-- Its numbers are in their ranges: the lines of `make` from 1 to 10,000, the numbers of `crowd` from 1 to 16, from 1 to 1,000 and from 1 to 16.
abbrev pub IsInRange : Command → Type 0
IsInRange Play = ⊤
IsInRange (Make lines seed) = (1 ≤ lines) × (lines ≤ 10000)
IsInRange (Crowd workers loans maximum) = ((1 ≤ workers) × (workers ≤ 16)) × ((1 ≤ loans) × (loans ≤ 1000)) × ((1 ≤ maximum) × (maximum ≤ 16))
IsInRange Unknown = ⊤
