-- A script that is read and written without a fault is played.
use Rattle.std.proofs.Common.{◌≡◌, ℕ, ◌-◌, ◌^◌, ◌<◌, ◌≤◌, List, ◌++◌, length, Option, Some, None, Result, Ok, Err, IfErr, IsOkUnless, refl, sym, ap, ◌∙◌, append-nil, length-append, inl, inr, arith}
use Rattle.std.specs.Io.KnownBytes.{Consumes}
use Rattle.sqlx_player.specs.Language.{Language}
use Rattle.sqlx_lines.specs.Scripts.{Script, script_of, bad_line}
use Rattle.sqlx_player.specs.declared.error.PlayError.{PlayError}
use Rattle.sqlx_player.specs.declared.error.PlayError.TheVariants.{Usage, ScriptTooLong, ScriptLine, ReadFault, WriteFault, OutOfMemory}
use Rattle.sqlx_player.specs.Faults.{HasFaulted}
use Rattle.sqlx_player.specs.Causes.{TookAll, PlayCause, IsSound, Shown}

-- there was no fault
no_fault : (before now : ℕ) → now ≡ before → now < 2 ^ 64 - 1 → HasFaulted before now → ⊥
no_fault before now same counted (inl rose) = omega arith
no_fault before now same counted (inr full) = omega arith

-- no more was taken than there was
taken : (before now : Option (List ℕ)) (bytes more : List ℕ) → before ≡ Some bytes → Consumes before now more → length more ≤ length bytes
taken None now bytes more told c = cc
taken (Some xs) None bytes more told c = absurd c
taken (Some xs) (Some ys) bytes more told c =
    let same : xs ≡ bytes = cc in
    omega (arith, length-append more ys, ap length same, ap length c)

-- what was taken to the end is what there was
all_taken : (before now : Option (List ℕ)) (bytes more : List ℕ) → before ≡ Some bytes → TookAll before now more → more ≡ bytes
all_taken None now bytes more told t = cc
all_taken (Some xs) None bytes more told t = absurd t.0
all_taken (Some xs) (Some ys) bytes more told t =
    let same : xs ≡ bytes = cc in
    sym (append-nil more) ∙ ap (λ zs. more ++ zs) (sym t.1) ∙ sym t.0 ∙ same

-- no error but want of memory
only_memory : {F E R : Type 0} (l : Language F E R) (s : Shown) (bytes : List ℕ) (script : Script F E) (e : PlayError) → IsSound l s bytes script → PlayCause l s e → e ≡ OutOfMemory
only_memory l s bytes script Usage sound c = absurd c
only_memory l s bytes script ScriptTooLong sound c =
    let few = taken s.left_before s.left_now bytes c.0.0 sound.told c.0.1 in
    absurd (omega (arith, few, c.0.2, sound.is_script.short))
only_memory l s bytes script (ScriptLine n) sound c =
    let same = all_taken s.left_before s.left_now bytes c.bytes sound.told c.took in
    let bad : script.lines.bad ≡ Some n = ap bad_line (sym (ap (script_of l.grammar) same ∙ sound.is_script.reads)) ∙ c.stops.0 in
    let none : None ≡ Some n = sym sound.is_script.good ∙ bad in
    cc
only_memory l s bytes script ReadFault sound c = absurd (no_fault s.read_faults_before s.read_faults_now sound.no_read_fault sound.reads_counted c.0)
only_memory l s bytes script WriteFault sound c = absurd (no_fault s.write_faults_before s.write_faults_now sound.no_write_fault sound.writes_counted c.0)
only_memory l s bytes script OutOfMemory sound c = refl

-- a sound play is Ok, unless memory runs out
pub is_complete : {F E R T : Type 0} (l : Language F E R) (s : Shown) (bytes : List ℕ) (script : Script F E) (r : Result T PlayError) → IfErr r (PlayCause l s) → IsSound l s bytes script → IsOkUnless r OutOfMemory
is_complete l s bytes script (Ok x) c sound = tt
is_complete l s bytes script (Err e) c sound = only_memory l s bytes script e sound c
