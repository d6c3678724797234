-- What each line of a script says, and which line is the first bad one.
use Rattle.std.specs.Prelude.{◌≡◌, ℕ, ◌+◌, ◌≤◌, Bool, true, false, List, [], ◌∷◌, length, codes, if◌then◌else◌, nat_lt, Option, Some, None}
use Rattle.std.specs.Str.{bytes_eq}
use Rattle.sqlx_lines.specs.Words.{whole}
use Rattle.sqlx_lines.specs.Numbers.{◌>>=◌, number_in, millis, nanos, name_number, key, value, any}
use Rattle.sqlx_script.specs.Numbers.{opens, limit_nanos, tries, tests}
use Rattle.sqlx_script.specs.Letters.{sign, statement, poll_answers, answering, give_answers, switches}
use Rattle.sqlx_lines.specs.Rows.{row, row_if, ended, words0, words1, words2, words3, words4, words5}
use Rattle.sqlx_lines.specs.Scripts.{Grammar}
use Rattle.sqlx_script.specs.declared.pool_line.PoolLine.{PoolLine}
use Rattle.sqlx_script.specs.declared.step.Event.{Event}
use Rattle.sqlx_script.specs.declared.step.Step.{Step}
use Rattle.sqlx_script.specs.declared.step.Step.TheVariants.{Ask, Poll, Cancel, Try, Give, End, Detach, Leak, Reap, Min, CloseState, Begin, Custom, Put, Del, Get, Commit, Rollback, GiveUp, Close}

-- ---- lines

-- the fields of `put`: its last word is the answer, which stands before the value in the event
unfoldable pub put_words : List (List ℕ) → Option Step
put_words = words5 name_number name_number key value statement (λ client connection key value answer. Put client connection key answer value)

-- what follows the moment, for the name of a statement
unfoldable pub statement_of : List ℕ → List (List ℕ) → Option Step
statement_of name fields =
    if bytes_eq name (codes "begin") then words3 name_number name_number statement Begin fields else
    if bytes_eq name (codes "custom") then words4 name_number name_number sign statement Custom fields else
    if bytes_eq name (codes "put") then put_words fields else
    if bytes_eq name (codes "del") then words4 name_number name_number key statement Del fields else
    if bytes_eq name (codes "get") then words4 name_number name_number key statement Get fields else
    if bytes_eq name (codes "commit") then words3 name_number name_number statement Commit fields else
    if bytes_eq name (codes "rollback") then words3 name_number name_number statement Rollback fields else
    if bytes_eq name (codes "giveup") then words2 name_number name_number GiveUp fields else
    None

-- the fields of `poll`; of a `pool2` script they end with a number: so many tests are answered by the letters
unfoldable pub poll_words : Bool → List (List ℕ) → Option Step
poll_words counts_tests =
    row name_number (λ client.
    row name_number (λ ticket.
    row poll_answers (λ answers.
    row_if counts_tests tests 1 (λ n.
    ended (Poll client ticket (answering answers n))))))

-- what follows the moment, for each name
unfoldable pub step_of : Bool → List ℕ → List (List ℕ) → Option Step
step_of counts_tests name fields =
    if bytes_eq name (codes "ask") then words1 name_number Ask fields else
    if bytes_eq name (codes "poll") then poll_words counts_tests fields else
    if bytes_eq name (codes "cancel") then words2 name_number name_number Cancel fields else
    if bytes_eq name (codes "try") then words1 name_number Try fields else
    if bytes_eq name (codes "give") then words4 name_number name_number give_answers opens Give fields else
    if bytes_eq name (codes "end") then words3 name_number name_number opens End fields else
    if bytes_eq name (codes "detach") then words3 name_number name_number opens Detach fields else
    if bytes_eq name (codes "leak") then words3 name_number name_number opens Leak fields else
    if bytes_eq name (codes "reap") then words1 opens Reap fields else
    if bytes_eq name (codes "min") then words1 opens Min fields else
    if bytes_eq name (codes "closed") then words0 CloseState fields else
    if bytes_eq name (codes "close") then words0 Close fields else
    statement_of name fields

-- the event of a step, if there is one, so many milliseconds from the start
abbrev pub at_moment : ℕ → Option Step → Option Event
at_moment ms step = step >>= λ step. Some (record { moment = record { 0 = nanos ms }; step = step })

-- a line after the first: a name, a moment, and the fields of the name
unfoldable pub event_words : Bool → List (List ℕ) → Option Event
event_words counts_tests = row any (λ name. row millis (λ ms fields. at_moment ms (step_of counts_tests name fields)))

-- whether the polls of a script tell a number of tests, by the first word of its first line: those of `pool2` do
unfoldable pub pool_name : List ℕ → Option Bool
pool_name word = if bytes_eq word (codes "pool") then Some false else if bytes_eq word (codes "pool2") then Some true else None

-- the last words of the first line, `lifetime idle switches`, and `tries` in a `pool2` script, after these maximum, minimum and nanoseconds to wait
unfoldable pub limits_after : Bool → ℕ → ℕ → ℕ → List (List ℕ) → Option PoolLine
limits_after counts_tests max min timeout =
    row limit_nanos (λ lifetime.
    row limit_nanos (λ idle.
    row switches (λ on.
    row_if counts_tests tries 1 (λ tries.
    ended (record {
      max = max;
      min = min;
      timeout = timeout;
      lifetime = lifetime;
      idle = idle;
      test_before_acquire = on.test_before_acquire;
      after_connect = on.after_connect;
      before_acquire = on.before_acquire;
      after_release = on.after_release;
      tries = tries;
      counts_tests = counts_tests;
    })))))

-- the first line, `pool max min timeout lifetime idle switches` or `pool2 max min timeout lifetime idle switches tries`
unfoldable pub pool_words : List (List ℕ) → Option PoolLine
pool_words =
    row pool_name (λ counts_tests.
    row (number_in 1 65536) (λ max.
    row opens (λ min.
    row millis (λ timeout.
    limits_after counts_tests max min (nanos timeout)))))

-- the event of a line after the first
unfoldable pub event_of : Bool → List ℕ → Option Event
event_of counts_tests line = whole (event_words counts_tests) line

-- what a first line says
unfoldable pub pool_of : List ℕ → Option PoolLine
pool_of line = whole pool_words line

-- ---- scripts

-- the moment of the last of these events; 0 where there is none
abbrev pub last_moment : List Event → ℕ
last_moment [] = 0
last_moment (event ∷ []) = event.moment.0
last_moment (event ∷ next ∷ events) = last_moment (next ∷ events)

-- an event whose moment is not below this one
abbrev pub not_before : ℕ → Option Event → Option Event
not_before last None = None
not_before last (Some event) = if nat_lt event.moment.0 last then None else Some event

-- what the lines of a script say: its moments never fall
abbrev pub pool_grammar : Grammar PoolLine Event
pool_grammar = record {
  first_of = pool_of;
  event_of = λ pool done line. not_before (last_moment done) (event_of pool.counts_tests line);
}
