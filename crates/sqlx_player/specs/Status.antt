-- The texts of the errors, and the exit status of each answer.
use Rattle.std.specs.Prelude.{ℕ, ◌++◌, List, codes, Result, Ok, Err}
use Rattle.std.specs.Fmt.{decimal}
use Rattle.sqlx_player.specs.declared.error.PlayError.{PlayError}
use Rattle.sqlx_player.specs.declared.error.PlayError.TheVariants.{Usage, ScriptTooLong, ScriptLine, ReadFault, WriteFault, OutOfMemory}

-- the text of an error that is no wrong use, and one word for a wrong use
abbrev pub fault_text : PlayError → List ℕ
fault_text Usage = codes "usage"
fault_text ScriptTooLong = codes "script too long"
fault_text (ScriptLine n) = codes "script line " ++ decimal n
fault_text ReadFault = codes "read fault"
fault_text WriteFault = codes "write fault"
fault_text OutOfMemory = codes "out of memory"

-- the text of an error of a program that is used so
abbrev pub error_text : List ℕ → PlayError → List ℕ
error_text usage Usage = codes "usage: " ++ usage
error_text usage ScriptTooLong = fault_text ScriptTooLong
error_text usage (ScriptLine n) = fault_text (ScriptLine n)
error_text usage ReadFault = fault_text ReadFault
error_text usage WriteFault = fault_text WriteFault
error_text usage OutOfMemory = fault_text OutOfMemory

-- the exit status of an error
abbrev pub error_status : PlayError → ℕ
error_status Usage = 2
error_status ScriptTooLong = 3
error_status (ScriptLine n) = 4
error_status ReadFault = 5
error_status WriteFault = 6
error_status OutOfMemory = 7

-- the exit status of an answer
abbrev pub status_of : {T : Type 0} → Result T PlayError → ℕ
status_of (Ok done) = 0
status_of (Err e) = error_status e

-- the exit status, and behind it the text of the fault
abbrev pub outcome_text : {T : Type 0} → List ℕ → Result T PlayError → List ℕ
outcome_text usage (Ok done) = decimal 0
outcome_text usage (Err e) = decimal (error_status e) ++ (codes " " ++ error_text usage e)
