-- A language of scripts, and its rules.
use Rattle.std.specs.Prelude.{ℕ, List, map}
use Rattle.sqlx_lines.specs.Scripts.{Grammar}

-- events, each with its reply, in order
abbrev pub Pairs : Type 0 → Type 0 → Type 0
Pairs E R = List (E × R)

-- the events of these
abbrev pub events_of : {E R : Type 0} → Pairs E R → List E
events_of pairs = map (λ pair. pair.0) pairs

-- What each event is answered, and what is written. F is what a first line says, E an event, R a reply.
pub record Rules (F E R : Type 0) : Type 0 where
  -- the reply to an event behind these events and replies
  pub answer : F → Pairs E R → E → R
  -- what is written for a reply: its line, or nothing
  pub text_of : R → List ℕ
  -- the closing line behind all events and replies
  pub closing : F → Pairs E R → List ℕ

-- What the lines of a script say, and what is answered.
pub record Language (F E R : Type 0) : Type 0 where
  pub grammar : Grammar F E
  pub rules : Rules F E R
