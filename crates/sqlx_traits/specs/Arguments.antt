-- Lists of arguments, and what refuses one.
use Rattle.std.specs.Prelude.{◌≡◌, ℕ, ◌+◌, ◌≤◌}
use Rattle.sqlx_text.specs.declared.fault.Fault.{Fault}
use Rattle.sqlx_text.specs.declared.fault.Fault.TheVariants as fault

-- the list has one argument more, behind those that it had
abbrev pub AddsOne : {L : Type 0} → (L → ℕ) → (ℕ → L → L) → L → L → Type 0
AddsOne count first before now = (count now ≡ count before + 1) × ((n : ℕ) → n ≤ count before → first n now ≡ first n before)

-- the fault is want of memory
abbrev pub IsWantOfMemory : Fault → Type 0
IsWantOfMemory f = f ≡ fault.OutOfMemory
