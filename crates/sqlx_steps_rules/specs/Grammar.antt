-- What each line of a script of steps says.
use Rattle.std.specs.Prelude.{ℕ, pos, ◌+◌, ◌==◌, ◌&&◌, Bool, not, true, nat_le, nat_lt, List, codes, if◌then◌else◌, Option, Some, None}
use Rattle.std.specs.Str.{bytes_eq}
use Rattle.sqlx_lines.specs.Words.{whole}
use Rattle.sqlx_lines.specs.Numbers.{number_in, name_number, key, value, any}
use Rattle.sqlx_lines.specs.Rows.{row, ended}
use Rattle.sqlx_steps_rules.specs.declared.event.Event.{Event}
use Rattle.sqlx_steps_rules.specs.declared.event.Event.TheVariants.{Step, Statement, Apply, Get}
use Rattle.sqlx_steps_rules.specs.declared.event.Write.TheVariants.{Put, Del}

-- ---- lines

-- `step N`: N is from 1 to 1,000
unfoldable pub step_words : List (List ℕ) → Option Event
step_words = row (number_in 1 1001) (λ n. ended (Step n))

-- `put key value`
unfoldable pub put_words : List (List ℕ) → Option Event
put_words = row key (λ k. row value (λ v. ended (Statement (Put (pos k) v))))

-- `del key`
unfoldable pub del_words : List (List ℕ) → Option Event
del_words = row key (λ k. ended (Statement (Del (pos k))))

-- `apply n f`
unfoldable pub apply_words : List (List ℕ) → Option Event
apply_words = row (number_in 0 1001) (λ n. row name_number (λ f. ended (Apply n f)))

-- `get key`
unfoldable pub get_words : List (List ℕ) → Option Event
get_words = row key (λ k. ended (Get k))

-- what follows each name
abbrev pub fields_of : List ℕ → List (List ℕ) → Option Event
fields_of name fields =
    if bytes_eq name (codes "step") then step_words fields else
    if bytes_eq name (codes "put") then put_words fields else
    if bytes_eq name (codes "del") then del_words fields else
    if bytes_eq name (codes "apply") then apply_words fields else
    if bytes_eq name (codes "get") then get_words fields else
    None

-- what a line after the first says by itself
unfoldable pub event_words : List (List ℕ) → Option Event
event_words = row any fields_of

-- whether it may come where so many steps are defined, and the definitions have ended or not: a step is the next one, a statement stands in a step, and what is applied is defined
abbrev pub is_in_place : ℕ → Bool → Event → Bool
is_in_place defined ended (Step n) = not ended && (n == defined + 1)
is_in_place defined ended (Statement write) = not ended && nat_lt 0 defined
is_in_place defined ended (Apply n f) = nat_le n defined
is_in_place defined ended (Get key) = true

-- the event, if it may come there
abbrev pub in_place : ℕ → Bool → Option Event → Option Event
in_place defined ended None = None
in_place defined ended (Some event) = if is_in_place defined ended event then Some event else None

-- what a line after the first says there
abbrev pub event_at : ℕ → Bool → List ℕ → Option Event
event_at defined ended line = in_place defined ended (whole event_words line)

-- the first line, `steps`
unfoldable pub opening_words : List (List ℕ) → Option (Unit {0})
opening_words = row any (λ name ws. if bytes_eq name (codes "steps") then ended tt ws else None)

-- what a first line says
abbrev pub opening_of : List ℕ → Option (Unit {0})
opening_of line = whole opening_words line
