-- Each step keeps the two alike: every outer level stands in the newest savepoint of its number, and the levels around it stand below that one. Of other savepoints on the list nothing is said.
use Rattle.std.proofs.Common.{◌≡◌, ℕ, suc, ◌≢◌, cond, List, [], ◌∷◌, length, Some, None, unwrap_or, option_map, refl, ap, arith, eq-eqb, ne_eqb, lt-ltb}
use Rattle.sqlx_savepoints.specs.Rows.{Rows, Writes}
use Rattle.sqlx_savepoints.specs.NamedSavepoints.{Named, Entry, newest, pushed, released, restored}
use Rattle.sqlx_savepoints.specs.NestedLevels.{Nested, current}
use Rattle.sqlx_savepoints.specs.Levels.{Step, begins, writes, commits, rolls_back, others_change, IsWithin, named_step, nested_step}

-- these levels, the innermost first, stand in the savepoints
abbrev pub Stand : List Entry → List Writes → Type 0
Stand entries [] = Unit {0}
Stand entries (own ∷ outer) = (older : List Entry) × (newest (suc (length outer)) entries ≡ Some (own, older)) × Stand older outer

-- the levels around the innermost one stand in the savepoints
abbrev pub Nests : List Entry → List Writes → Type 0
Nests entries [] = Unit {0}
Nests entries (own ∷ outer) = Stand entries outer

-- the nested levels as named savepoints, with these savepoints on the list
abbrev pub named_of : List Entry → Nested → Named
named_of entries state = record { rows = state.rows; own = current state.levels; entries = entries; depth = length state.levels }

-- after a step: some savepoints in which the levels stand again
abbrev pub StaysAlike : Step → List Entry → Nested → Type 0
StaysAlike step entries state = (left : List Entry) × (named_step step (named_of entries state) ≡ named_of left (nested_step step state)) × Nests left (nested_step step state).levels

-- a savepoint is the newest of its own name
itself : (name : ℕ) (own : Writes) (older : List Entry) → newest name (record { name = name; own = own } ∷ older) ≡ Some (own, older)
itself name own older = ap (λ b. cond b (Some (own, older)) (newest name older)) (eq-eqb name name refl)

-- a savepoint of another name is passed over
passed : (name other : ℕ) (own : Writes) (older : List Entry) → name ≢ other → newest name (record { name = other; own = own } ∷ older) ≡ newest name older
passed name other own older apart = ap (λ b. cond b (Some (own, older)) (newest name older)) (ne_eqb name other apart)

-- the levels below a number stand also under a savepoint of that number
under : (own : Writes) (older : List Entry) (outer : List Writes) → Stand older outer → Stand (record { name = suc (length outer); own = own } ∷ older) outer
under own older [] stand = tt
under own older (next ∷ outer) stand =
    let apart : suc (length outer) ≢ suc (length (next ∷ outer)) = λ e. absurd (omega arith) in
    (stand.0, rw (passed (suc (length outer)) (suc (length (next ∷ outer))) own older apart) stand.1, stand.2)

step_over : (entries : List Entry) (rows : Rows) (levels : List Writes) (step : Step) → Nests entries levels → IsWithin (length levels) step → StaysAlike step entries (record { rows = rows; levels = levels })
step_over entries rows [] begins nests within = ([], refl, tt)
step_over entries rows (own ∷ outer) begins nests within =
    let state : Named = named_of entries (record { rows = rows; levels = own ∷ outer }) in (
      record { name = suc (length outer); own = own } ∷ entries,
      ap (λ b. unwrap_or (cond b (Some (pushed (suc (length outer)) state)) None) state) (lt-ltb _ 100 within),
      (entries, itself (suc (length outer)) own entries, nests),
    )
step_over entries rows [] (writes key value) nests within = (entries, refl, tt)
step_over entries rows (own ∷ outer) (writes key value) nests within = (entries, refl, nests)
step_over entries rows [] commits nests within = absurd within
step_over entries rows (own ∷ []) commits nests within = ([], refl, tt)
step_over entries rows (own ∷ next ∷ outer) commits nests within =
    let state : Named = named_of entries (record { rows = rows; levels = own ∷ next ∷ outer }) in
    (nests.0, ap (λ o. unwrap_or (option_map (released state) o) state) nests.1, nests.2)
step_over entries rows [] rolls_back nests within = absurd within
step_over entries rows (own ∷ []) rolls_back nests within = ([], refl, tt)
step_over entries rows (own ∷ next ∷ outer) rolls_back nests within =
    let state : Named = named_of entries (record { rows = rows; levels = own ∷ next ∷ outer }) in (
      record { name = suc (length outer); own = next } ∷ nests.0,
      ap (λ o. unwrap_or (option_map (restored (suc (length outer)) state) o) state) nests.1,
      under next nests.0 outer nests.2,
    )
step_over entries rows levels (others_change new) nests within = (entries, refl, nests)

-- one step keeps named savepoints and nested levels alike
pub steps_alike : (entries : List Entry) (state : Nested) (step : Step) → Nests entries state.levels → IsWithin (length state.levels) step → StaysAlike step entries state
steps_alike entries state step nests within = step_over entries state.rows state.levels step nests within
