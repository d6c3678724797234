-- Steps on stores: two of one connection run one after the other, two of two connections in either order.
use Rattle.std.proofs.Common.{◌≡◌, ℕ, ◌==◌, ◌≤◌, ℤ, true, false, cond, Option, List, [], ◌∷◌, length, refl, sym, ap, ◌∙◌, inl, inr, eq-eqb, arith}
use Rattle.std.proofs.lemmas.Bool.Decides.{eqb_tells}
use Rattle.sqlx_savepoints.specs.Rows.{Rows, Writes}
use Rattle.sqlx_savepoints.specs.NestedLevels.{Nested}
use Rattle.sqlx_savepoints.specs.Levels.{begins, nested_step}
use Rattle.sqlx_savepoints.specs.Levels as levels
use Rattle.sqlx_savepoints.proofs.Laid.{laid-empty, laid-insert}
use Rattle.sqlx_savepoints.specs.Stores.{Store, with_levels, nested_at, on, all_dropped}

store_path : (s t : Store) → s.rows ≡ t.rows → ((d : ℕ) → s.levels d ≡ t.levels d) → s ≡ t
store_path s t rows levels = λ i. record { rows = rows i; levels = λ d. levels d i }

own_levels : (c : ℕ) (new : List Writes) (all : ℕ → List Writes) → with_levels c new all c ≡ new
own_levels c new all = ap (λ b. cond b new (all c)) (eq-eqb c c refl)

pub nested_at-own : (c : ℕ) (step : Nested → Nested) (s : Store) → nested_at c (on c step s) ≡ step (nested_at c s)
nested_at-own c step s = λ i. record { rows = (step (nested_at c s)).rows; levels = own_levels c (step (nested_at c s)).levels s.levels i }

-- two steps of one connection
pub on-on : (c : ℕ) (first second : Nested → Nested) (s : Store) → on c second (on c first s) ≡ on c (λ n. second (first n)) s
on-on c first second s =
    let own = nested_at-own c first s in
    store_path (on c second (on c first s)) (on c (λ n. second (first n)) s) (ap (λ n. (second n).rows) own) (λ d.
    elim (d == c) as (λ b. cond b (second (nested_at c (on c first s))).levels (cond b (first (nested_at c s)).levels (s.levels d)) ≡ cond b (second (first (nested_at c s))).levels (s.levels d)) [
      | true ↦ ap (λ n. (second n).levels) own
      | false ↦ refl
    ])

-- a step that changes nothing here
pub on-same : (c : ℕ) (step : Nested → Nested) (s : Store) → step (nested_at c s) ≡ nested_at c s → on c step s ≡ s
on-same c step s same = store_path (on c step s) s (ap (λ n. n.rows) same) (λ d. elim (eqb_tells d c) [
  | inl is ↦ ap (λ b. cond b (step (nested_at c s)).levels (s.levels d)) is.0 ∙ ap (λ n. n.levels) same ∙ ap s.levels (sym is.1)
  | inr is ↦ ap (λ b. cond b (step (nested_at c s)).levels (s.levels d)) is.0
])

-- steps that do the same here
pub on-alike : (c : ℕ) (first second : Nested → Nested) (s : Store) → first (nested_at c s) ≡ second (nested_at c s) → on c first s ≡ on c second s
on-alike c first second s same = ap (λ (n : Nested). record { rows = n.rows; levels = with_levels c n.levels s.levels }) same

-- a step of d that is about its levels alone, and any step of another connection c
pub on-swap : (c d : ℕ) (moved : List Writes → List Writes) (step : Nested → Nested) (s : Store) → (c == d) ≡ false → (d == c) ≡ false → on c step (on d (λ n. record n { levels = moved n.levels }) s) ≡ on d (λ n. record n { levels = moved n.levels }) (on c step s)
on-swap c d moved step s cd dc =
    let quiet : Nested → Nested = λ n. record n { levels = moved n.levels } in
    let at_c : nested_at c (on d quiet s) ≡ nested_at c s = ap (λ b. record { rows = s.rows; levels = cond b (moved (s.levels d)) (s.levels c) }) cd in
    let at_d : (on c step s).levels d ≡ s.levels d = ap (λ b. cond b (step (nested_at c s)).levels (s.levels d)) dc in
    store_path (on c step (on d quiet s)) (on d quiet (on c step s)) (ap (λ n. (step n).rows) at_c) (λ e.
    elim (eqb_tells e c) [
      | inl is ↦
          let ed : (e == d) ≡ false = rw is.1 cd in
          ap (λ b. cond b (step (nested_at c (on d quiet s))).levels (cond (e == d) (moved (s.levels d)) (s.levels e))) is.0
          ∙ ap (λ n. (step n).levels) at_c
          ∙ sym (ap (λ b. cond b (moved ((on c step s).levels d)) (cond (e == c) (step (nested_at c s)).levels (s.levels e))) ed ∙ ap (λ b. cond b (step (nested_at c s)).levels (s.levels e)) is.0)
      | inr is ↦
          ap (λ b. cond b (step (nested_at c (on d quiet s))).levels (cond (e == d) (moved (s.levels d)) (s.levels e))) is.0
          ∙ ap (λ l. cond (e == d) (moved l) (s.levels e)) (sym at_d)
          ∙ ap (λ b. cond (e == d) (moved ((on c step s).levels d)) (cond b (step (nested_at c s)).levels (s.levels e))) (sym is.0)
    ])

-- ---- steps of one connection after one another
committed_over : (rows : Rows) (all : List Writes) → nested_step levels.commits (nested_step begins (record { rows = rows; levels = all })) ≡ record { rows = rows; levels = all }
committed_over rows [] = ap (λ (r : Rows). record { rows = r; levels = [] }) (laid-empty rows)
committed_over rows (own ∷ outer) = refl

pub committed_begun : (n : Nested) → nested_step levels.commits (nested_step begins n) ≡ n
committed_begun n = committed_over n.rows n.levels

pub committed_written : (rows : Rows) (all : List Writes) (key : ℤ) (value : Option ℤ) → 1 ≤ length all → nested_step levels.commits (nested_step (levels.writes key value) (record { rows = rows; levels = all })) ≡ nested_step (levels.writes key value) (nested_step levels.commits (record { rows = rows; levels = all }))
committed_written rows [] key value one = absurd (omega arith)
committed_written rows (own ∷ []) key value one = ap (λ (r : Rows). record { rows = r; levels = [] }) (laid-insert own key value rows)
committed_written rows (own ∷ next ∷ outer) key value one = refl

pub undone_written : (rows : Rows) (all : List Writes) (key : ℤ) (value : Option ℤ) → 1 ≤ length all → nested_step levels.rolls_back (nested_step (levels.writes key value) (record { rows = rows; levels = all })) ≡ nested_step levels.rolls_back (record { rows = rows; levels = all })
undone_written rows [] key value one = absurd (omega arith)
undone_written rows (own ∷ outer) key value one = refl

pub dropped_written : (rows : Rows) (all : List Writes) (key : ℤ) (value : Option ℤ) → 1 ≤ length all → all_dropped (nested_step (levels.writes key value) (record { rows = rows; levels = all })) ≡ all_dropped (record { rows = rows; levels = all })
dropped_written rows [] key value one = absurd (omega arith)
dropped_written rows (own ∷ outer) key value one = refl

pub dropped_outside : (rows : Rows) (all : List Writes) (key : ℤ) (value : Option ℤ) → length all ≡ 0 → all_dropped (nested_step (levels.writes key value) (record { rows = rows; levels = all })) ≡ nested_step (levels.writes key value) (all_dropped (record { rows = rows; levels = all }))
dropped_outside rows [] key value none = refl
dropped_outside rows (own ∷ outer) key value none = absurd (omega arith)
