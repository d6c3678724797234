-- Why a play ends before its end, by what its source and its sink show.
use Rattle.std.specs.Prelude.{◌≡◌, ℕ, ◌-◌, ◌^◌, ◌<◌, ◌≤◌, ◌⊎◌, ⊤, List, ◌++◌, length, Option, Some, Result, IsOkUnless}
use Rattle.std.specs.Io.KnownBytes.{Consumes, IsAtEnd, Appends, Keeps}
use Rattle.sqlx_player.specs.Language.{Language}
use Rattle.sqlx_lines.specs.Scripts.{Script, IsScript, script_of, first_bad, limit}
use Rattle.sqlx_player.specs.Output.{replies_due, output_due}
use Rattle.sqlx_player.specs.declared.error.PlayError.{PlayError}
use Rattle.sqlx_player.specs.declared.error.PlayError.TheVariants.{Usage, ScriptTooLong, ScriptLine, ReadFault, WriteFault, OutOfMemory}
use Rattle.sqlx_player.specs.Faults.{HasFaulted}

-- ---- reading

-- All that was left was taken, and it is these bytes.
abbrev pub TookAll : Option (List ℕ) → Option (List ℕ) → List ℕ → Type 0
TookAll before now bytes = Consumes before now bytes × IsAtEnd now

-- More bytes than a script may have were taken.
abbrev pub TookTooMany : Option (List ℕ) → Option (List ℕ) → Type 0
TookTooMany before now = (bytes : List ℕ) × Consumes before now bytes × (limit < length bytes)

-- Why reading the source ended without its bytes.
abbrev pub ReadCause : Option (List ℕ) → Option (List ℕ) → ℕ → ℕ → PlayError → Type 0
ReadCause before now faults_before faults_now Usage = ⊥
ReadCause before now faults_before faults_now ScriptTooLong = TookTooMany before now
ReadCause before now faults_before faults_now (ScriptLine n) = ⊥
ReadCause before now faults_before faults_now ReadFault = HasFaulted faults_before faults_now
ReadCause before now faults_before faults_now WriteFault = ⊥
ReadCause before now faults_before faults_now OutOfMemory = ⊤

-- ---- writing

-- A front of the text was written.
pub record WrotePart (before now : Option (List ℕ)) (text : List ℕ) : Type 0 where
  pub front : List ℕ
  pub rest : List ℕ
  pub parts : front ++ rest ≡ text
  pub written : Appends before now front

-- Why a text was not played to its end: at line n (Stops n), or with a part of it written (Part).
abbrev pub TextCause : (ℕ → Type 0) → Type 0 → ℕ → ℕ → PlayError → Type 0
TextCause Stops Part faults_before faults_now Usage = ⊥
TextCause Stops Part faults_before faults_now ScriptTooLong = ⊥
TextCause Stops Part faults_before faults_now (ScriptLine n) = Stops n
TextCause Stops Part faults_before faults_now ReadFault = ⊥
TextCause Stops Part faults_before faults_now WriteFault = HasFaulted faults_before faults_now × Part
TextCause Stops Part faults_before faults_now OutOfMemory = Part

-- ---- the whole

-- The first bad line has number n, and the replies of the lines before it were written.
abbrev pub StopsText : {F E R : Type 0} → Language F E R → List ℕ → Option (List ℕ) → Option (List ℕ) → ℕ → Type 0
StopsText l bytes before now n = (first_bad l.grammar bytes ≡ Some n) × Appends before now (replies_due l.rules (script_of l.grammar bytes))

-- Why a text that was read isn't played to its end: its first bad line, or what was written of its output.
abbrev pub ScriptCause : {F E R : Type 0} → Language F E R → List ℕ → Option (List ℕ) → Option (List ℕ) → ℕ → ℕ → PlayError → Type 0
ScriptCause l bytes before now = TextCause (StopsText l bytes before now) (WrotePart before now (output_due l.rules (script_of l.grammar bytes)))

-- What source and sink show.
pub record Shown : Type 0 where
  pub left_before : Option (List ℕ)
  pub left_now : Option (List ℕ)
  pub read_faults_before : ℕ
  pub read_faults_now : ℕ
  pub written_before : Option (List ℕ)
  pub written_now : Option (List ℕ)
  pub write_faults_before : ℕ
  pub write_faults_now : ℕ

-- what a source, before and after, and a sink, before and after, show by these meanings
abbrev pub shown : {S K : Type 0} → (S → Option (List ℕ)) → (S → ℕ) → S → S → (K → Option (List ℕ)) → (K → ℕ) → K → K → Shown
shown left read_faults source source' written write_faults sink sink' = record {
  left_before = left source;
  left_now = left source';
  read_faults_before = read_faults source;
  read_faults_now = read_faults source';
  written_before = written sink;
  written_now = written sink';
  write_faults_before = write_faults sink;
  write_faults_now = write_faults sink';
}

-- All was read, within the bound, and the first bad line has number n.
pub record TookBad {F E R : Type 0} (l : Language F E R) (s : Shown) (n : ℕ) : Type 0 where
  pub bytes : List ℕ
  pub took : TookAll s.left_before s.left_now bytes
  pub short : length bytes ≤ limit
  pub stops : StopsText l bytes s.written_before s.written_now n

-- All was read, and a front of what is due was written.
pub record TookPart {F E R : Type 0} (l : Language F E R) (s : Shown) : Type 0 where
  pub bytes : List ℕ
  pub took : TookAll s.left_before s.left_now bytes
  pub part : WrotePart s.written_before s.written_now (output_due l.rules (script_of l.grammar bytes))

-- Why a play without words ended before its end.
abbrev pub PlayCause : {F E R : Type 0} → Language F E R → Shown → PlayError → Type 0
PlayCause l s Usage = ⊥
PlayCause l s ScriptTooLong = TookTooMany s.left_before s.left_now × Keeps s.written_before s.written_now
PlayCause l s (ScriptLine n) = TookBad l s n
PlayCause l s ReadFault = HasFaulted s.read_faults_before s.read_faults_now × Keeps s.written_before s.written_now
PlayCause l s WriteFault = HasFaulted s.write_faults_before s.write_faults_now × TookPart l s
PlayCause l s OutOfMemory = Keeps s.written_before s.written_now ⊎ TookPart l s

-- The source has a script, and neither it nor the sink fails in this call.
pub record IsSound {F E R : Type 0} (l : Language F E R) (s : Shown) (bytes : List ℕ) (script : Script F E) : Type 0 where
  pub told : s.left_before ≡ Some bytes
  pub is_script : IsScript l.grammar bytes script
  pub no_read_fault : s.read_faults_now ≡ s.read_faults_before
  pub reads_counted : s.read_faults_now < 2 ^ 64 - 1
  pub no_write_fault : s.write_faults_now ≡ s.write_faults_before
  pub writes_counted : s.write_faults_now < 2 ^ 64 - 1

-- Where the source has a script and there is no fault, the answer is Ok, or memory ran out.
abbrev pub IsComplete : {F E R T : Type 0} → Language F E R → Shown → Result T PlayError → Type 0
IsComplete {F} {E} l s result = (bytes : List ℕ) (script : Script F E) → IsSound l s bytes script → IsOkUnless result OutOfMemory
