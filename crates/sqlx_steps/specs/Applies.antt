-- What applying steps does.
use Rattle.std.specs.Prelude.{◌≡◌, ◌⊎◌, ℕ, ◌≤◌, max, ℤ, pos, negsuc, Bool, false, List, Option, Some, None, Result, Ok, IsErr}
use Rattle.std.specs.FinMap.{get}
use Rattle.std.specs.Ordering.{int_cmp, eq_by_cmp}
use Rattle.sqlx_savepoints.specs.Rows.{Rows}
use Rattle.mem_store.specs.Store.{Store, Link}
use Rattle.sqlx_steps_rules.specs.declared.event.Write.{Write}
use Rattle.sqlx_steps_rules.specs.declared.reply.Reply.{Reply}
use Rattle.sqlx_steps_rules.specs.declared.reply.Reply.TheVariants as reply
use Rattle.sqlx_steps_rules.specs.Rules.{rows_of, version_reached, apply_reply}
use Rattle.sqlx_steps.specs.declared.applied.Applied.{Applied}
use Rattle.sqlx_steps.specs.declared.applied.Applied.TheVariants.{Done, Stopped, OutOfMemory}
use Rattle.sqlx_steps.specs.AtWork.{IsAtRest}

-- the row of key -1 holds the version; for version 0 it may be missing
abbrev pub TellsVersion : Rows → ℕ → Type 0
TellsVersion rows v = (get rows (negsuc 0) ≡ Some (pos v)) ⊎ ((v ≡ 0) × (get rows (negsuc 0) ≡ None))

-- the version that a row holds
abbrev pub number_of : Option ℤ → ℕ
number_of None = 0
number_of (Some (pos v)) = v
number_of (Some (negsuc v)) = 0

-- whether a key is that of the version
abbrev pub is_version_key : ℤ → Bool
is_version_key key = eq_by_cmp int_cmp key (negsuc 0)

-- The rows are those of a version, with the row that holds it.
pub record HoldsVersion (steps : List (List Write)) (rows : Rows) (v : ℕ) : Type 0 where
  pub tells : TellsVersion rows v
  pub others : (key : ℤ) → is_version_key key ≡ false → get rows key ≡ get (rows_of steps v) key

-- Connection n is at rest on a store that holds a version, and no other connection has an open level.
pub record IsAtVersion (steps : List (List Write)) (n v : ℕ) (store : Store) (link : Link) : Type 0 where
  pub rows : Rows
  pub rests : IsAtRest store link n rows
  pub holds : HoldsVersion steps rows v

-- the version that an apply left
abbrev pub version_left : Applied → ℕ
version_left (Done V) = V
version_left (Stopped V) = V
version_left (OutOfMemory V) = V

-- What an apply of the steps behind version v up to this one answers, where text number f was refused. Done and Stopped tell the reply that the rules give; want of memory leaves a version between.
abbrev pub AppliesAs : List (List Write) → ℕ → ℕ → ℕ → Applied → Type 0
AppliesAs steps v upto f (Done V) = apply_reply upto (version_reached steps v upto f) ≡ reply.Applied V
AppliesAs steps v upto f (Stopped V) = apply_reply upto (version_reached steps v upto f) ≡ reply.Stopped V
AppliesAs steps v upto f (OutOfMemory V) = (v ≤ V) × (V ≤ max v upto)

-- What it does: connection n is at rest on a store that holds the version of the answer.
pub record Applies (steps : List (List Write)) (n v upto f : ℕ) (applied : Applied) (store : Store) (link : Link) : Type 0 where
  pub at : IsAtVersion steps n (version_left applied) store link
  pub answers : AppliesAs steps v upto f applied

-- the reply by which it is told; none where memory was wanting
abbrev pub Told : {E : Type 0} → Applied → Result Reply E → Type 0
Told (Done V) result = result ≡ Ok (reply.Applied V)
Told (Stopped V) result = result ≡ Ok (reply.Stopped V)
Told (OutOfMemory V) result = IsErr result
