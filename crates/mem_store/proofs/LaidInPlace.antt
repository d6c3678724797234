-- Rows that are written in place are those over which the writes are laid, in whatever order the keys stand.
use Rattle.std.proofs.Common.{◌≡◌, ℕ, zero, suc, ◌+◌, ◌<◌, ℤ, true, false, cond, List, [], ◌∷◌, ◌++◌, length, take, get_or, add-one, arith, Option, Some, None, refl, sym, ap, ◌∙◌}
use Rattle.sqlx_pool_places.specs.Numbered.{items_at}
use Rattle.std.specs.Ordering.{int_cmp, eq_by_cmp}
use Rattle.std.specs.Cmp.{int_cmp_total}
use Rattle.std.specs.FinMap.{get, insert, remove, from_entries, find, get-insert, get-remove, get-from_entries, same_map, int_cmp-IsAntisymmetric}
use Rattle.sqlx_savepoints.specs.Rows.{Rows, laid, seen}
use Rattle.sqlx_savepoints.proofs.Laid.{get-laid}
use Rattle.mem_store.specs.OwnWrites.{StandOnce}
use Rattle.mem_store.specs.UndoLog.{values_inserted, deletions_done}
use Rattle.mem_store.proofs.OnceEach.{Pairs, same_key}

-- what a write that was found makes of a row: a value is inserted, a deletion is still to come
abbrev value_over : Option (Option ℤ) → Option ℤ → Option ℤ
value_over (Some (Some value)) below = Some value
value_over (Some None) below = below
value_over None below = below

-- a deletion that was found is done
abbrev deletion_over : Option (Option ℤ) → Option ℤ → Option ℤ
deletion_over (Some None) below = None
deletion_over (Some (Some value)) below = below
deletion_over None below = below

both_over : (found : Option (Option ℤ)) (below : Option ℤ) → deletion_over found (value_over found below) ≡ seen found below
both_over None below = refl
both_over (Some None) below = refl
both_over (Some (Some value)) below = refl

-- a key that isn't found, by one that ties with it
alike : (q key : ℤ) (writes : Pairs) → eq_by_cmp int_cmp q key ≡ true → find int_cmp key writes ≡ None → find int_cmp q writes ≡ None
alike q key writes e none = rw (same_key q key e) none

get-values_inserted : (writes : Pairs) (rows : Rows) → StandOnce writes → (q : ℤ) → get (values_inserted writes rows) q ≡ value_over (find int_cmp q writes) (get rows q)
get-values_inserted [] rows once q = refl
get-values_inserted ((key, Some value) ∷ writes) rows once q =
    get-values_inserted writes (insert rows key value) once.1 q
    ∙ ap (value_over (find int_cmp q writes)) (get-insert int_cmp_total rows key value q)
    ∙ elim (eq_by_cmp int_cmp q key) as (λ b. eq_by_cmp int_cmp q key ≡ b → value_over (find int_cmp q writes) (cond b (Some value) (get rows q)) ≡ value_over (cond b (Some (Some value)) (find int_cmp q writes)) (get rows q)) [
      | true ↦ λ e. ap (λ o. value_over o (Some value)) (alike q key writes e once.0.1)
      | false ↦ λ e. refl
    ] refl
get-values_inserted ((key, None) ∷ writes) rows once q =
    get-values_inserted writes rows once.1 q
    ∙ elim (eq_by_cmp int_cmp q key) as (λ b. eq_by_cmp int_cmp q key ≡ b → value_over (find int_cmp q writes) (get rows q) ≡ value_over (cond b (Some None) (find int_cmp q writes)) (get rows q)) [
      | true ↦ λ e. ap (λ o. value_over o (get rows q)) (alike q key writes e once.0.1)
      | false ↦ λ e. refl
    ] refl

get-deletions_done : (writes : Pairs) (rows : Rows) → StandOnce writes → (q : ℤ) → get (deletions_done writes rows) q ≡ deletion_over (find int_cmp q writes) (get rows q)
get-deletions_done [] rows once q = refl
get-deletions_done ((key, Some value) ∷ writes) rows once q =
    get-deletions_done writes rows once.1 q
    ∙ elim (eq_by_cmp int_cmp q key) as (λ b. eq_by_cmp int_cmp q key ≡ b → deletion_over (find int_cmp q writes) (get rows q) ≡ deletion_over (cond b (Some (Some value)) (find int_cmp q writes)) (get rows q)) [
      | true ↦ λ e. ap (λ o. deletion_over o (get rows q)) (alike q key writes e once.0.1)
      | false ↦ λ e. refl
    ] refl
get-deletions_done ((key, None) ∷ writes) rows once q =
    get-deletions_done writes (remove rows key) once.1 q
    ∙ ap (deletion_over (find int_cmp q writes)) (get-remove int_cmp_total rows key q)
    ∙ elim (eq_by_cmp int_cmp q key) as (λ b. eq_by_cmp int_cmp q key ≡ b → deletion_over (find int_cmp q writes) (cond b None (get rows q)) ≡ deletion_over (cond b (Some None) (find int_cmp q writes)) (get rows q)) [
      | true ↦ λ e. ap (λ o. deletion_over o None) (alike q key writes e once.0.1)
      | false ↦ λ e. refl
    ] refl

-- the writes in place are those that are laid over the rows
pub in_place_laid : (own : Pairs) (rows : Rows) → StandOnce own → deletions_done own (values_inserted own rows) ≡ laid (from_entries {R = int_cmp} own) rows
in_place_laid own rows once = same_map int_cmp_total int_cmp-IsAntisymmetric _ _ (λ q.
    get-deletions_done own (values_inserted own rows) once q
    ∙ ap (deletion_over (find int_cmp q own)) (get-values_inserted own rows once q)
    ∙ both_over (find int_cmp q own) (get rows q)
    ∙ ap (λ o. seen o (get rows q)) (sym (get-from_entries int_cmp_total own q))
    ∙ sym (get-laid (from_entries own) rows q))

pub values_inserted-append : (writes more : List (ℤ × Option ℤ)) (rows : Rows) → values_inserted (writes ++ more) rows ≡ values_inserted more (values_inserted writes rows)
values_inserted-append [] more rows = refl
values_inserted-append ((key, Some value) ∷ writes) more rows = values_inserted-append writes more (insert rows key value)
values_inserted-append ((key, None) ∷ writes) more rows = values_inserted-append writes more rows

pub deletions_done-append : (writes more : List (ℤ × Option ℤ)) (rows : Rows) → deletions_done (writes ++ more) rows ≡ deletions_done more (deletions_done writes rows)
deletions_done-append [] more rows = refl
deletions_done-append ((key, Some value) ∷ writes) more rows = deletions_done-append writes more rows
deletions_done-append ((key, None) ∷ writes) more rows = deletions_done-append writes more (remove rows key)

-- ---- one place more

items-take : {X : Type 0} (places : List (Option X)) (i : ℕ) → i < length places → items_at (take (suc i) places) ≡ items_at (take i places) ++ items_at (get_or places i None ∷ [])
items-take [] i lt = absurd (omega (arith, lt))
items-take (Some x ∷ rest) zero lt = refl
items-take (None ∷ rest) zero lt = refl
items-take (Some x ∷ rest) (suc i) lt = ap (λ l. x ∷ l) (items-take rest i (omega (arith, lt)))
items-take (None ∷ rest) (suc i) lt = items-take rest i (omega (arith, lt))

pub values_inserted-next : (places : List (Option (ℤ × Option ℤ))) (i : ℕ) (rows made new : Rows) → i < length places → made ≡ values_inserted (items_at (take i places)) rows
    → new ≡ values_inserted (items_at (get_or places i None ∷ [])) made → new ≡ values_inserted (items_at (take (i + 1) places)) rows
values_inserted-next places i rows made new lt so_far step =
    step ∙ ap (values_inserted (items_at (get_or places i None ∷ []))) so_far
    ∙ sym (ap (λ j. values_inserted (items_at (take j places)) rows) (add-one i) ∙ ap (λ writes. values_inserted writes rows) (items-take places i lt) ∙ values_inserted-append (items_at (take i places)) (items_at (get_or places i None ∷ [])) rows)

pub deletions_done-next : (places : List (Option (ℤ × Option ℤ))) (i : ℕ) (rows made new : Rows) → i < length places → made ≡ deletions_done (items_at (take i places)) rows
    → new ≡ deletions_done (items_at (get_or places i None ∷ [])) made → new ≡ deletions_done (items_at (take (i + 1) places)) rows
deletions_done-next places i rows made new lt so_far step =
    step ∙ ap (deletions_done (items_at (get_or places i None ∷ []))) so_far
    ∙ sym (ap (λ j. deletions_done (items_at (take j places)) rows) (add-one i) ∙ ap (λ writes. deletions_done writes rows) (items-take places i lt) ∙ deletions_done-append (items_at (take i places)) (items_at (get_or places i None ∷ [])) rows)
