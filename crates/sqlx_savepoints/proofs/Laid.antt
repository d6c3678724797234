-- What a reader sees through writes that are laid over rows.
use Rattle.std.proofs.Common.{◌≡◌, ℤ, Bool, true, false, cond, List, [], ◌∷◌, Option, Some, None, refl, sym, ap, ◌∙◌}
use Rattle.std.specs.Ordering.{int_cmp, eq_by_cmp}
use Rattle.std.specs.Cmp.{int_cmp_total}
use Rattle.std.specs.FinMap.{get, insert, empty, entries, find, get-entries, get-empty, get-insert, get-remove, same_map, int_cmp-IsAntisymmetric}
use Rattle.sqlx_savepoints.specs.Rows.{Rows, Writes, written, all_written, laid, seen, sees}

-- one write: its own key has the value, the others are as before
pub get-written : (key : ℤ) (value : Option ℤ) (rows : Rows) (q : ℤ) → get (written key value rows) q ≡ cond (eq_by_cmp int_cmp q key) value (get rows q)
get-written key (Some value) rows q = get-insert int_cmp_total rows key value q
get-written key None rows q = get-remove int_cmp_total rows key q

found_else : (b : Bool) (value : Option ℤ) (rest : Option (Option ℤ)) (below : Option ℤ) → cond b value (seen rest below) ≡ seen (cond b (Some value) rest) below
found_else true value rest below = refl
found_else false value rest below = refl

-- a list of writes: the first of a key counts
get-all_written : (writes : List (ℤ × Option ℤ)) (rows : Rows) (q : ℤ) → get (all_written writes rows) q ≡ seen (find int_cmp q writes) (get rows q)
get-all_written [] rows q = refl
get-all_written (write ∷ writes) rows q =
    get-written write.0 write.1 (all_written writes rows) q
    ∙ ap (cond (eq_by_cmp int_cmp q write.0) write.1) (get-all_written writes rows q)
    ∙ found_else (eq_by_cmp int_cmp q write.0) write.1 (find int_cmp q writes) (get rows q)

-- the rows under laid writes are what a reader with these own writes sees
pub get-laid : (own : Writes) (rows : Rows) (q : ℤ) → get (laid own rows) q ≡ sees own rows q
unfolding laid
get-laid own rows q = get-all_written (entries own) rows q ∙ ap (λ o. seen o (get rows q)) (sym (get-entries own q))

-- no writes change nothing
pub laid-empty : (rows : Rows) → laid empty rows ≡ rows
laid-empty rows = same_map int_cmp_total int_cmp-IsAntisymmetric _ _ (λ q. get-laid empty rows q ∙ ap (λ o. seen o (get rows q)) (get-empty {X = Option ℤ} int_cmp q))

-- a write into the own writes is a write after they are laid
pub laid-insert : (own : Writes) (key : ℤ) (value : Option ℤ) (rows : Rows) → laid (insert own key value) rows ≡ written key value (laid own rows)
laid-insert own key value rows = same_map int_cmp_total int_cmp-IsAntisymmetric _ _ (λ q.
    get-laid (insert own key value) rows q
    ∙ ap (λ o. seen o (get rows q)) (get-insert int_cmp_total own key value q)
    ∙ sym (found_else (eq_by_cmp int_cmp q key) value (get own q) (get rows q))
    ∙ ap (cond (eq_by_cmp int_cmp q key) value) (sym (get-laid own rows q))
    ∙ sym (get-written key value (laid own rows) q))

-- what a reader sees after an own write
pub sees-insert : (own : Writes) (key : ℤ) (value : Option ℤ) (rows : Rows) (q : ℤ) → sees (insert own key value) rows q ≡ cond (eq_by_cmp int_cmp q key) value (sees own rows q)
sees-insert own key value rows q = ap (λ o. seen o (get rows q)) (get-insert int_cmp_total own key value q) ∙ sym (found_else (eq_by_cmp int_cmp q key) value (get own q) (get rows q))
