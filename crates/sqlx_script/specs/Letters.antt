-- The words whose letters say what the outside answers.
use Rattle.std.specs.Prelude.{ℕ, Bool, true, false, ◌==◌, List, [], ◌∷◌, if◌then◌else◌, Option, Some, None}
use Rattle.sqlx_lines.specs.Numbers.{◌>>=◌}
use Rattle.sqlx_script.specs.declared.answers.HookAnswer.{HookAnswer}
use Rattle.sqlx_script.specs.declared.answers.HookAnswer.TheVariants.{Accepts, Refuses, Fails, LeavesOpen}
use Rattle.sqlx_script.specs.declared.answers.AfterConnectAnswer.{AfterConnectAnswer}
use Rattle.sqlx_script.specs.declared.answers.AfterConnectAnswer.TheVariants.{SetUp, SetUpFails, SetUpLeavesOpen}
use Rattle.sqlx_script.specs.declared.answers.ConnectAnswer.{ConnectAnswer}
use Rattle.sqlx_script.specs.declared.answers.ConnectAnswer.TheVariants.{Connected, Transient, ConnectIo, ConnectDatabase}
use Rattle.sqlx_script.specs.declared.answers.StatementAnswer.{StatementAnswer}
use Rattle.sqlx_script.specs.declared.answers.StatementAnswer.TheVariants.{Runs, StatementIo, StatementRefused}
use Rattle.sqlx_script.specs.declared.answers.PollAnswers.{PollAnswers}
use Rattle.sqlx_script.specs.declared.answers.GiveAnswers.{GiveAnswers}
use Rattle.sqlx_script.specs.declared.letters.Switches.{Switches}

-- `+` or `-`
unfoldable pub plus_or_minus : ℕ → Option Bool
plus_or_minus b = if b == 43 then Some true else if b == 45 then Some false else None

-- `+`, `-`, `!` or `^`
unfoldable pub hook_letter : ℕ → Option HookAnswer
hook_letter b = if b == 43 then Some Accepts else if b == 45 then Some Refuses else if b == 33 then Some Fails else if b == 94 then Some LeavesOpen else None

-- `+`, `!` or `^`
unfoldable pub after_connect_letter : ℕ → Option AfterConnectAnswer
after_connect_letter b = if b == 43 then Some SetUp else if b == 33 then Some SetUpFails else if b == 94 then Some SetUpLeavesOpen else None

-- `+`, `~`, `i` or `d`
unfoldable pub connect_letter : ℕ → Option ConnectAnswer
connect_letter b = if b == 43 then Some Connected else if b == 126 then Some Transient else if b == 105 then Some ConnectIo else if b == 100 then Some ConnectDatabase else None

-- `+`, `i` or `d`
unfoldable pub statement_letter : ℕ → Option StatementAnswer
statement_letter b = if b == 43 then Some Runs else if b == 105 then Some StatementIo else if b == 100 then Some StatementRefused else None

-- a word of one sign
unfoldable pub sign : List ℕ → Option Bool
sign (b ∷ []) = plus_or_minus b
sign word = None

-- the answer to a statement
unfoldable pub statement : List ℕ → Option StatementAnswer
statement (b ∷ []) = statement_letter b
statement word = None

-- the four letters of a `poll`, which answer one test
unfoldable pub poll_answers : List ℕ → Option PollAnswers
poll_answers (p ∷ b ∷ c ∷ a ∷ []) =
    plus_or_minus p >>= λ ping. hook_letter b >>= λ before. connect_letter c >>= λ connect. after_connect_letter a >>= λ after.
    Some (record { ping = ping; before_acquire = before; connect = connect; after_connect = after; tests = 1 })
poll_answers word = None

-- these letters, which answer so many tests
abbrev pub answering : PollAnswers → ℕ → PollAnswers
answering answers tests = record answers { tests = tests }

-- the two letters of a `give`
unfoldable pub give_answers : List ℕ → Option GiveAnswers
give_answers (r ∷ p ∷ []) = hook_letter r >>= λ release. plus_or_minus p >>= λ ping. Some (record { after_release = release; ping = ping })
give_answers word = None

-- the four switches of the first line
unfoldable pub switches : List ℕ → Option Switches
switches (p ∷ a ∷ b ∷ r ∷ []) =
    plus_or_minus p >>= λ ping. plus_or_minus a >>= λ after. plus_or_minus b >>= λ before. plus_or_minus r >>= λ release.
    Some (record { test_before_acquire = ping; after_connect = after; before_acquire = before; after_release = release })
switches word = None
