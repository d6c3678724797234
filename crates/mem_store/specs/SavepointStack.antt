-- Own writes and the savepoints that keep earlier ones, as plain values.
use Rattle.std.specs.Prelude.{ℕ, List, [], ◌∷◌, option_map, refl}
use Rattle.std.specs.Option.{unwrap_or}
use Rattle.std.specs.Coded.{Coded, code_by, coded×, coded_ℕ, coded_ℤ, coded_list, coded_option}
use Rattle.std.specs.FinMap.{code, empty}
use Rattle.sqlx_savepoints.specs.Rows.{Rows, Writes}
use Rattle.sqlx_savepoints.specs.NamedSavepoints.{Entry, newest}
use Rattle.mem_store.specs.Undo.{Undo, undo_code, no_undo, undo_saved, undo_released, undo_restored}

-- the own writes, the savepoints with the newest first, and what can be undone
pub record SavepointStack : Type 0 where
  pub own : Writes
  pub entries : List Entry
  pub undo : Undo

-- rows, written out
abbrev pub rows_code : Coded Rows
rows_code = code coded_ℤ coded_ℤ

-- writes, written out
abbrev pub writes_code : Coded Writes
writes_code = code coded_ℤ (coded_option coded_ℤ)

-- an entry, written out
abbrev pub entry_code : Coded Entry
entry_code = code_by (ℕ × Writes) (coded× coded_ℕ writes_code) (λ e. (e.name, e.own)) (λ p. record { name = p.0; own = p.1 }) (λ _. refl)

-- a stack, written out
abbrev pub stack_code : Coded SavepointStack
stack_code = code_by (Writes × (List Entry × Undo)) (coded× writes_code (coded× (coded_list entry_code) undo_code)) (λ k. (k.own, (k.entries, k.undo))) (λ p. record { own = p.0; entries = p.1.0; undo = p.1.1 }) (λ _. refl)

-- no writes, no savepoints
abbrev pub no_savepoints : SavepointStack
no_savepoints = record { own = empty; entries = []; undo = no_undo }

-- a savepoint of this name on top, which keeps the own writes as they stand
abbrev pub saved_at : ℕ → SavepointStack → SavepointStack
saved_at name stack = record stack { entries = record { name = name; own = stack.own } ∷ stack.entries; undo = undo_saved name stack.undo }

-- the newest savepoint of the name and all newer ones taken away
abbrev pub released_to : ℕ → SavepointStack → SavepointStack
released_to name stack = unwrap_or (option_map (λ found. record stack { entries = found.1; undo = undo_released name stack.undo }) (newest name stack.entries)) stack

-- the own writes as the newest savepoint of the name keeps them; it stays, all newer ones go
abbrev pub restored_to : ℕ → SavepointStack → SavepointStack
restored_to name stack = unwrap_or (option_map (λ found. record { own = found.0; entries = record { name = name; own = found.0 } ∷ found.1; undo = undo_restored name stack.undo }) (newest name stack.entries)) stack
