-- Named savepoints of every connection stand for its nested levels: change by change.
use Rattle.std.proofs.Common.{◌≡◌, ℕ, zero, suc, ◌==◌, ◌<◌, ◌≤◌, ℤ, true, false, cond, Option, IsSome, List, [], ◌∷◌, length, refl, sym, ap, ◌∙◌, subst, arith, lt-ltb, rules}
use Rattle.sqlx_savepoints.specs.Rows.{Rows, Writes, sees}
use Rattle.sqlx_savepoints.specs.Texts.{begin_at, commit_at, rollback_at}
use Rattle.sqlx_savepoints.specs.NamedSavepoints.{Named, Entry, dropped, released, restored}
use Rattle.sqlx_savepoints.specs.NamedSavepoints as named
use Rattle.sqlx_savepoints.specs.NestedLevels.{Nested, current}
use Rattle.sqlx_savepoints.specs.Levels.{Step, begins, nested_step, named_step, IsWithin}
use Rattle.sqlx_savepoints.specs.Levels as levels
use Rattle.sqlx_savepoints.proofs.StepByStep.{Nests, named_of, StaysAlike, steps_alike}
use Rattle.sqlx_savepoints.specs.Changes.{Change, opens, writes, commits, rolls_back, leaves, History}
use Rattle.sqlx_savepoints.specs.Brackets.{depth, value}
use Rattle.sqlx_savepoints.specs.Stores.{Store, nested_at, on, all_dropped, changed, store_after, IsAccepted, AreAccepted, ReadsAlike}
use Rattle.sqlx_savepoints.specs.Links.{Link, Linked, named_at, link_of, moved, linked_changed, linked_after}
use Rattle.sqlx_savepoints.specs.Laws.{BracketsAreSavepoints}
use Rattle.sqlx_savepoints.proofs.Readers.{levels_read_alike}

-- the levels of every connection as named savepoints, with these savepoints on the lists
abbrev pub linked_of : (ℕ → List Entry) → Store → Linked
linked_of entries s = record { rows = s.rows; link = λ c. record { own = current (s.levels c); entries = entries c; depth = length (s.levels c) } }

-- some savepoints in which the levels of every connection stand
abbrev pub Stands : Linked → Store → Type 0
Stands linked s = (entries : ℕ → List Entry) × ((c : ℕ) → Nests (entries c) (s.levels c)) × (linked ≡ linked_of entries s)

-- a connection's entries replaced
abbrev pub with_entries : ℕ → List Entry → (ℕ → List Entry) → ℕ → List Entry
with_entries c left entries d = cond (d == c) left (entries d)

linked_path : (a b : Linked) → a.rows ≡ b.rows → ((d : ℕ) → a.link d ≡ b.link d) → a ≡ b
linked_path a b rows link = λ i. record { rows = rows i; link = λ d. link d i }

-- one connection moved alike on both sides
moved_alike : (c : ℕ) (step : Nested → Nested) (left : List Entry) (entries : ℕ → List Entry) (s : Store) → Nests left (step (nested_at c s)).levels → ((d : ℕ) → Nests (entries d) (s.levels d)) → Stands (moved c (named_of left (step (nested_at c s))) (linked_of entries s)) (on c step s)
moved_alike c step left entries s stands all = (
  with_entries c left entries,
  λ d. elim (d == c) as (λ b. Nests (cond b left (entries d)) (cond b (step (nested_at c s)).levels (s.levels d))) [ true ↦ stands | false ↦ all d ],
  linked_path (moved c (named_of left (step (nested_at c s))) (linked_of entries s)) (linked_of (with_entries c left entries) (on c step s)) refl (λ d.
      let state : Named = named_of left (step (nested_at c s)) in
      let other : Link = record { own = current (s.levels d); entries = entries d; depth = length (s.levels d) } in
      elim (d == c) as (λ b. cond b (link_of state) other ≡ record { own = current (cond b (step (nested_at c s)).levels (s.levels d)); entries = cond b left (entries d); depth = length (cond b (step (nested_at c s)).levels (s.levels d)) }) [ true ↦ refl | false ↦ refl ]),
)

-- a step run by the texts on one connection
step_alike : (c : ℕ) (step : Step) (linked : Linked) (s : Store) → Stands linked s → IsWithin (length (s.levels c)) step → Stands (moved c (named_step step (named_at c linked)) linked) (on c (nested_step step) s)
step_alike c step linked s stands within =
    let alike : StaysAlike step (stands.0 c) (nested_at c s) = steps_alike (stands.0 c) (nested_at c s) step (stands.1 c) within in
    subst (λ l. Stands (moved c (named_step step (named_at c l)) l) (on c (nested_step step) s)) (sym stands.2)
    (subst (λ n. Stands (moved c n (linked_of stands.0 s)) (on c (nested_step step) s)) (sym alike.1)
    (moved_alike c (nested_step step) alike.0 stands.0 s alike.2 stands.1))

within_write : (n : ℕ) (key : ℤ) (value : Option ℤ) → IsWithin n (levels.writes key value)
within_write zero key value = tt
within_write (suc n) key value = tt

within_commit : (n : ℕ) → 1 ≤ n → IsWithin n levels.commits
within_commit zero one = absurd (omega arith)
within_commit (suc n) one = tt

within_rollback : (n : ℕ) → 1 ≤ n → IsWithin n levels.rolls_back
within_rollback zero one = absurd (omega arith)
within_rollback (suc n) one = tt

change_alike : (past : History) (change : Change) → IsAccepted past change → Stands (linked_after past) (store_after past) → ReadsAlike past (store_after past) → Stands (linked_changed (linked_after past) change) (changed (store_after past) change)
change_alike past (opens c) accepted stands alike = step_alike c begins (linked_after past) (store_after past) stands (subst (λ n. n < 100) (sym (alike.depths c)) accepted)
change_alike past (writes c key value) accepted stands alike = step_alike c (levels.writes key value) (linked_after past) (store_after past) stands (within_write (length ((store_after past).levels c)) key value)
change_alike past (commits c) accepted stands alike = step_alike c levels.commits (linked_after past) (store_after past) stands (within_commit (length ((store_after past).levels c)) (subst (λ n. 1 ≤ n) (sym (alike.depths c)) accepted))
change_alike past (rolls_back c) accepted stands alike = step_alike c levels.rolls_back (linked_after past) (store_after past) stands (within_rollback (length ((store_after past).levels c)) (subst (λ n. 1 ≤ n) (sym (alike.depths c)) accepted))
change_alike past (leaves c) accepted stands alike =
    subst (λ l. Stands (moved c (dropped (named_at c l)) l) (on c all_dropped (store_after past))) (sym stands.2) (moved_alike c all_dropped [] stands.0 (store_after past) tt stands.1)

linked_stands : (history : History) → AreAccepted history → Stands (linked_after history) (store_after history)
linked_stands [] accepted = (λ c. [], λ c. tt, refl)
linked_stands (change ∷ past) accepted = change_alike past change accepted.0 (linked_stands past accepted.1) (levels_read_alike past accepted.1)

-- ---- the next text is allowed
begin_allowed : (entries : List Entry) (rows : Rows) (all : List Writes) → length all < 100 → IsSome (named.after (begin_at (length all)) (named_of entries (record { rows = rows; levels = all })))
begin_allowed entries rows [] low = search (rules)
begin_allowed entries rows (own ∷ outer) low = rw (lt-ltb (length (own ∷ outer)) 100 low) (search (rules))

commit_allowed : (entries : List Entry) (rows : Rows) (all : List Writes) → Nests entries all → 1 ≤ length all → IsSome (named.after (commit_at (length all)) (named_of entries (record { rows = rows; levels = all })))
commit_allowed entries rows [] stands one = absurd (omega arith)
commit_allowed entries rows (own ∷ []) stands one = search (rules)
commit_allowed entries rows (own ∷ next ∷ outer) stands one = rw (stands.1) (search (rules))

rollback_allowed : (entries : List Entry) (rows : Rows) (all : List Writes) → Nests entries all → 1 ≤ length all → IsSome (named.after (rollback_at (length all)) (named_of entries (record { rows = rows; levels = all })))
rollback_allowed entries rows [] stands one = absurd (omega arith)
rollback_allowed entries rows (own ∷ []) stands one = search (rules)
rollback_allowed entries rows (own ∷ next ∷ outer) stands one = rw (stands.1) (search (rules))

pub savepoints_read_alike : BracketsAreSavepoints
savepoints_read_alike history accepted =
    let stands = linked_stands history accepted in
    let alike = levels_read_alike history accepted in
    let s : Store = store_after history in
    record {
      depths = λ c. ap (λ l. (l.link c).depth) stands.2 ∙ alike.depths c;
      values = λ reader key. ap (λ l. sees (l.link reader).own l.rows key) stands.2 ∙ alike.values reader key;
      begins_allowed = λ c low. subst (λ l. IsSome (named.after (begin_at (depth c history)) (named_at c l))) (sym stands.2)
          (subst (λ n. IsSome (named.after (begin_at n) (named_of (stands.0 c) (nested_at c s)))) (alike.depths c) (begin_allowed (stands.0 c) s.rows (s.levels c) (subst (λ n. n < 100) (sym (alike.depths c)) low)));
      commits_allowed = λ c one. subst (λ l. IsSome (named.after (commit_at (depth c history)) (named_at c l))) (sym stands.2)
          (subst (λ n. IsSome (named.after (commit_at n) (named_of (stands.0 c) (nested_at c s)))) (alike.depths c) (commit_allowed (stands.0 c) s.rows (s.levels c) (stands.1 c) (subst (λ n. 1 ≤ n) (sym (alike.depths c)) one)));
      rollbacks_allowed = λ c one. subst (λ l. IsSome (named.after (rollback_at (depth c history)) (named_at c l))) (sym stands.2)
          (subst (λ n. IsSome (named.after (rollback_at n) (named_of (stands.0 c) (nested_at c s)))) (alike.depths c) (rollback_allowed (stands.0 c) s.rows (s.levels c) (stands.1 c) (subst (λ n. 1 ≤ n) (sym (alike.depths c)) one)));
    }
