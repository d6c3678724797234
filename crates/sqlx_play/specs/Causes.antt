-- Why a play of the pool's scripts ends before its end, by what its source and its sink show, and when it doesn't.
use Rattle.std.specs.Prelude.{Result}
use Rattle.sqlx_player.specs.declared.error.PlayError.{PlayError}
use Rattle.sqlx_player.specs.Causes.{Shown}
use Rattle.sqlx_player.specs.Causes as player
use Rattle.sqlx_script_rules.specs.Output.{pool_language}

-- Why a play without words ended before its end.
abbrev pub PlayCause : Shown → PlayError → Type 0
PlayCause = player.PlayCause pool_language

-- Where the source has a script and there is no fault, the answer is Ok, or memory ran out.
abbrev pub IsComplete : {T : Type 0} → Shown → Result T PlayError → Type 0
IsComplete s result = player.IsComplete pool_language s result
