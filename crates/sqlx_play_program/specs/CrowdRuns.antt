-- What is written for a crowd, and why it isn't.
use Rattle.std.specs.Prelude.{ℕ, ◌⊎◌, List, Option}
use Rattle.std.specs.Io.KnownBytes.{Keeps, Appends}
use Rattle.sqlx_play_crowd.specs.Crowd.{LeavesLog}
use Rattle.sqlx_player.specs.declared.error.PlayError.{PlayError}
use Rattle.sqlx_player.specs.declared.error.PlayError.TheVariants.{WriteFault, OutOfMemory}
use Rattle.sqlx_player.specs.Causes.{WrotePart}
use Rattle.sqlx_player.specs.Faults.{HasFaulted}

-- The text of a log that is fair for a pool of this maximum, with so many loans, was written, and their number.
pub record WritesLog (max loans : ℕ) (before now : Option (List ℕ)) : Type 0 where
  pub text : List ℕ
  pub leaves : LeavesLog max loans text
  pub written : Appends before now text

-- A front of such a text was written.
pub record WroteLogPart (max loans : ℕ) (before now : Option (List ℕ)) : Type 0 where
  pub text : List ℕ
  pub leaves : LeavesLog max loans text
  pub part : WrotePart before now text

-- Why such a text wasn't written: a write fault was counted, with a front of it written, or memory ran out then or before anything was.
abbrev pub CrowdCause : ℕ → ℕ → Option (List ℕ) → Option (List ℕ) → ℕ → ℕ → PlayError → Type 0
CrowdCause max loans before now faults_before faults_now WriteFault = HasFaulted faults_before faults_now × WroteLogPart max loans before now
CrowdCause max loans before now faults_before faults_now OutOfMemory = Keeps before now ⊎ WroteLogPart max loans before now
CrowdCause max loans before now faults_before faults_now _ = ⊥
