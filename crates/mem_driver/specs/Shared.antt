-- What the calls of a connection to a shared store give, and its session after them: what a session does over the store that the lock held.
use Rattle.std.specs.Prelude.{◌≡◌, ℕ, ◌+◌, Bool, List, Option}
use Rattle.sqlx_traits.specs.Calls.{Call, Outcome, begin, commit, rollback, start_rollback}
use Rattle.sqlx_any.specs.declared.arguments.AnyArguments.{AnyArguments}
use Rattle.mem_store.specs.Store.{Store, new_link, new_store}
use Rattle.mem_store.specs.declared.answer.Answer.TheVariants.{Accept}
use Rattle.mem_driver.specs.Answers.{Answers}
use Rattle.mem_driver.specs.Backend as alone
use Rattle.mem_driver.specs.Session.{Session, new_cache}

-- the session with this store in the place of its own
abbrev pub over : Store → Session → Session
over store session = record session { work = record session.work { store = store } }

-- over a store that the lock held the session goes like this, and then has its own store again
abbrev pub OnHeld : (Session → Session → Type 0) → Session → Session → Type 0
OnHeld goes before after = (held : Store) × (left : Session) × goes (over held before) left × (after ≡ over before.work.store left)

-- what a text gives over a store that the lock held
abbrev pub Runs : Session → List ℕ → Bool → Option AnyArguments → Answers → Session → Type 0
Runs before text kept arguments list after = OnHeld (λ session left. alone.Runs session text kept arguments list left) before after

-- what a call besides queries answers: one of a level over a store that the lock held, any other without it
abbrev pub Does : Call → Session → Outcome → Session → Type 0
Does (begin statement) before outcome after = OnHeld (λ session left. alone.Does (begin statement) session outcome left) before after
Does commit before outcome after = OnHeld (λ session left. alone.Does commit session outcome left) before after
Does rollback before outcome after = OnHeld (λ session left. alone.Does rollback session outcome left) before after
Does start_rollback before outcome after = OnHeld (λ session left. alone.Does start_rollback session outcome left) before after
Does call before outcome after = alone.Does call before outcome after

-- a new connection to the store that the lock held: no level open, no text cached, nothing handed in and no refusal counted, and a store of its own that is empty
abbrev pub IsOpened : Session → Type 0
IsOpened session = (held : Store) × (session ≡ record { work = record { store = new_store; link = new_link (held.given + 1); answer = Accept }; cache = new_cache; faults = 0 })
