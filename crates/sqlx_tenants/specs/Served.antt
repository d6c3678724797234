-- What playing a script of tenants is.
use Rattle.std.specs.Prelude.{◌≡◌, ℕ, ◌≤◌, ◌<◌, List, length, take, sum_by, Option}
use Rattle.std.specs.Io.KnownBytes.{Appends}
use Rattle.sqlx_player.specs.Language.{Pairs}
use Rattle.sqlx_lines.specs.Scripts.{Script, IsScript}
use Rattle.sqlx_player.specs.Output.{pairs_of, output_of}
use Rattle.sqlx_player.specs.Causes.{Shown, PlayCause}
use Rattle.sqlx_player.specs.declared.error.PlayError.{PlayError}
use Rattle.sqlx_player.specs.declared.error.PlayError.TheVariants.{Usage}
use Rattle.sqlx_family.specs.Pools.{Pools}
use Rattle.sqlx_tenants_rules.specs.declared.event.Opening.{Opening}
use Rattle.sqlx_tenants_rules.specs.declared.event.Event.{Event}
use Rattle.sqlx_tenants_rules.specs.declared.reply.Reply.{Reply}
use Rattle.sqlx_tenants_rules.specs.Book.{Book, account, live}
use Rattle.sqlx_tenants_rules.specs.Rules.{tenants_grammar, tenants_rules, tenants_language, book_of, all_open}
use Rattle.sqlx_tenants.specs.Keeps.{Keeps}

-- A tenant's open connections are at most its budget and at most the permits that it owns, and those of all together at most the limit; nor are more told of at the end.
pub record IsWithin (limit : ℕ) (book : Book) : Type 0 where
  pub budget : (n : ℕ) → 1 ≤ n → n < length book → live (account n book) ≤ (account n book).budget
  pub owned : (n : ℕ) → 1 ≤ n → n < length book → live (account n book) ≤ (account n book).owned
  pub all : sum_by live book ≤ limit
  pub told : all_open book ≤ limit

-- It is so behind each of these events.
abbrev pub StaysWithin : Opening → Pairs Event Reply → Type 0
StaysWithin first pairs = (n : ℕ) → n ≤ length pairs → IsWithin first.limit (book_of first (take n pairs))

-- The bytes are a script, its output was written, no tenant ever passed its budget, and the family keeps the book of all events and replies.
pub record Serves (family : Pools (Unit {0})) (bytes : List ℕ) (before now : Option (List ℕ)) : Type 0 where
  pub script : Script Opening Event
  pub is_script : IsScript tenants_grammar bytes script
  pub written : Appends before now (output_of tenants_rules script)
  pub within : StaysWithin script.first (pairs_of tenants_rules script)
  pub moment : ℕ
  pub keeps : Keeps script.first family (book_of script.first (pairs_of tenants_rules script)) moment

-- A family served the script.
abbrev pub ServesSome : List ℕ → Option (List ℕ) → Option (List ℕ) → Type 0
ServesSome bytes before now = (family : Pools (Unit {0})) × Serves family bytes before now

-- Why a run ended before its end: there was a word, and nothing was read or written; or as a play.
abbrev pub RunCause : Shown → PlayError → Type 0
RunCause s Usage = (s.left_now ≡ s.left_before) × (s.written_now ≡ s.written_before)
RunCause s other = PlayCause tenants_language s other
