-- What each line of a script of a job queue says.
use Rattle.std.specs.Prelude.{ℕ, ◌^◌, nat_lt, List, [], ◌∷◌, codes, if◌then◌else◌, Option, Some, None}
use Rattle.std.specs.Str.{bytes_eq}
use Rattle.sqlx_lines.specs.Words.{whole}
use Rattle.sqlx_lines.specs.Numbers.{number_in, millis, name_number, any}
use Rattle.sqlx_lines.specs.Rows.{row, ended}
use Rattle.sqlx_lines.specs.Scripts.{Grammar}
use Rattle.sqlx_jobs_rules.specs.declared.queue_line.QueueLine.{QueueLine}
use Rattle.sqlx_jobs_rules.specs.declared.event.Event.{Event}
use Rattle.sqlx_jobs_rules.specs.declared.event.Act.{Act}
use Rattle.sqlx_jobs_rules.specs.declared.event.Act.TheVariants.{Add, Claim, Extend, Finish, Drop, Count}
use Rattle.sqlx_jobs_rules.specs.declared.event.Met.{Met}
use Rattle.sqlx_jobs_rules.specs.declared.event.Met.TheVariants.{Accepted, WriteRefused, CommitRefused}

-- `+`, `i` or `c`
abbrev pub met_of : List ℕ → Option Met
met_of word =
    if bytes_eq word (codes "+") then Some Accepted else
    if bytes_eq word (codes "i") then Some WriteRefused else
    if bytes_eq word (codes "c") then Some CommitRefused else
    None

-- the event of an act at a moment
abbrev pub at : ℕ → Act → Event
at now act = record { moment = now; act = act }

-- ---- lines

-- `add now a`
unfoldable pub add_words : List (List ℕ) → Option Event
add_words = row millis (λ now. row met_of (λ a. ended (at now (Add a))))

-- `claim now w a`
unfoldable pub claim_words : List (List ℕ) → Option Event
claim_words = row millis (λ now. row name_number (λ w. row met_of (λ a. ended (at now (Claim w a)))))

-- `extend now w j a`
unfoldable pub extend_words : List (List ℕ) → Option Event
extend_words = row millis (λ now. row name_number (λ w. row name_number (λ j. row met_of (λ a. ended (at now (Extend w j a))))))

-- `finish now w j a`
unfoldable pub finish_words : List (List ℕ) → Option Event
finish_words = row millis (λ now. row name_number (λ w. row name_number (λ j. row met_of (λ a. ended (at now (Finish w j a))))))

-- `drop now w j a`
unfoldable pub drop_words : List (List ℕ) → Option Event
drop_words = row millis (λ now. row name_number (λ w. row name_number (λ j. row met_of (λ a. ended (at now (Drop w j a))))))

-- `count now`
unfoldable pub count_words : List (List ℕ) → Option Event
count_words = row millis (λ now. ended (at now Count))

-- what follows the name of what ends a hold, or of a count
unfoldable pub ending_fields : List ℕ → List (List ℕ) → Option Event
ending_fields name fields =
    if bytes_eq name (codes "finish") then finish_words fields else
    if bytes_eq name (codes "drop") then drop_words fields else
    if bytes_eq name (codes "count") then count_words fields else
    None

-- what follows each name
abbrev pub fields_of : List ℕ → List (List ℕ) → Option Event
fields_of name fields =
    if bytes_eq name (codes "add") then add_words fields else
    if bytes_eq name (codes "claim") then claim_words fields else
    if bytes_eq name (codes "extend") then extend_words fields else
    ending_fields name fields

-- what a line after the first says by itself
unfoldable pub event_words : List (List ℕ) → Option Event
event_words = row any fields_of

-- the moment of the last of these events; 0 where there is none
abbrev pub last_moment : List Event → ℕ
last_moment [] = 0
last_moment (event ∷ []) = event.moment
last_moment (event ∷ next ∷ events) = last_moment (next ∷ events)

-- an event whose moment isn't below this one
abbrev pub not_before : ℕ → Option Event → Option Event
not_before last None = None
not_before last (Some event) = if nat_lt event.moment last then None else Some event

-- what a line after the first says behind an event of this moment
abbrev pub event_at : ℕ → List ℕ → Option Event
event_at last line = not_before last (whole event_words line)

-- ---- the first line

-- `jobs max lease`: a maximum from 1 to 64, and a lease of at least a millisecond
unfoldable pub jobs_words : List (List ℕ) → Option QueueLine
jobs_words = row (number_in 1 65) (λ max. row (number_in 1 (2 ^ 40)) (λ lease. ended (record { max = max; lease = lease })))

-- its name and what follows
unfoldable pub opening_words : List (List ℕ) → Option QueueLine
opening_words = row any (λ name ws. if bytes_eq name (codes "jobs") then jobs_words ws else None)

-- what a first line says
abbrev pub opening_of : List ℕ → Option QueueLine
opening_of line = whole opening_words line

-- ---- the grammar

-- what the lines of a script of a job queue say
abbrev pub jobs_grammar : Grammar QueueLine Event
jobs_grammar = record {
  first_of = opening_of;
  event_of = λ _ done line. event_at (last_moment done) line;
}
