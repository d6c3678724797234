-- What a call over the lock shows: of which states it speaks, by what the caller's front had seen before and has seen now.
use Rattle.std.specs.Prelude.{◌≡◌, Bool, true, false, ⊤, List, Option, Some, None, Result, Ok, Err}
use mathlib.Core.List.{IsPrefix}
use Rattle.sqlx_text.specs.declared.error.Error.{Error}
use Rattle.sqlx_text.specs.declared.error.Error.TheVariants.{PoolClosed}
use Rattle.sqlx_pool_history.specs.Shows.{Showed, Shows, Steps}

-- of states: what holds of each in which the value stands while its lock is free
module _ {S : Type 0} (stands : S → Type 0) where
  -- a state stands, and this holds of it
  abbrev pub StandsAs : (S → Type 0) → S → Type 0
  StandsAs holds state = stands state × holds state

  -- the front ends with a state that stands, of which this holds
  abbrev pub Sees : List S → List S → (S → Type 0) → Type 0
  Sees old new holds = Shows old new (StandsAs holds)

  -- the front ends with a step, which did this, from a state that stands to another
  abbrev pub SeesStep : List S → List S → (S → S → Type 0) → Type 0
  SeesStep old new does = Steps old new (λ before after. stands before × StandsAs (does before) after)

  -- the front went on by such a step, and perhaps further
  abbrev pub HasMade : List S → List S → (S → S → Type 0) → Type 0
  HasMade old new does = (seen : List S) × SeesStep old seen does × IsPrefix seen new

  -- since the front ended where it did, it has seen a state that stands, of which this holds
  abbrev pub HasSeen : List S → List S → (S → Type 0) → Type 0
  HasSeen old new holds = Showed old new (StandsAs holds)

-- a step's own output; or that the pool is closed, as it was seen; or nothing yet, where it was seen open
abbrev pub Watched : {T : Type 0} → (Bool → Type 0) → Option (Result T Error) → Type 0
Watched seen (Some (Ok output)) = ⊤
Watched seen (Some (Err e)) = (e ≡ PoolClosed) × seen false
Watched seen None = seen true
