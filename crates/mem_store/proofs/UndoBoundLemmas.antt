-- The savepoints of the open levels among those on the list, and how far behind each the log stands.
use Rattle.std.proofs.Common.{◌≡◌, ℕ, zero, suc, ◌≤◌, ◌+◌, ◌==◌, Option, List, [], ◌∷◌, drop, refl, sym, subst, ◌∙◌, ℤ, arith, eq-eqb}
use Rattle.std.specs.Prelude.{map}
use Rattle.std.specs.Option.{unwrap_or}
use Rattle.std.proofs.lemmas.Bool.{cond-true, cond-false, ne_eqb}
use Rattle.sqlx_savepoints.specs.Levels.{Step, IsWithin, StaysWithin, begins, writes, commits, rolls_back, others_change}
use Rattle.mem_store.specs.declared.saved.Saved.{Saved}
use Rattle.mem_store.specs.UndoLog.{AreMarked, first_mark, from_name}
use Rattle.mem_store.specs.UndoBound.{LevelWrites, UndoesFew, RollbacksUndoFew, no_level, level_step, level_run}
use Rattle.mem_store.proofs.Undoing.{from_name-marked, later_marked, rest_marked}

abbrev the_entry : ℕ → ℕ → Saved
the_entry name mark = record { name = name; mark = mark }

-- each open level has its savepoint behind those of the levels in it, and the log stands no further behind its mark than it saw writes
abbrev Fine : ℕ → List Saved → ℕ → List ℕ → Type 0
Fine zero saved len since = Unit {0}
Fine (suc depth) saved len [] = ⊥
Fine (suc zero) saved len (count ∷ outer) = len ≤ count
Fine (suc (suc depth)) saved len (count ∷ outer) =
    (mark : ℕ) × (older : List Saved) × (from_name (suc depth) saved ≡ the_entry (suc depth) mark ∷ older) × (len ≤ mark + count) × Fine (suc depth) older len outer

fine_less : (depth len less : ℕ) (saved : List Saved) (since : List ℕ) → less ≤ len → Fine depth saved len since → Fine depth saved less since
fine_less zero len less saved since e fine = tt
fine_less (suc depth) len less saved [] e fine = absurd fine
fine_less (suc zero) len less saved (count ∷ outer) e fine = omega (arith, e, fine)
fine_less (suc (suc depth)) len less saved (count ∷ outer) e (mark, older, is, few, rest) = (mark, older, is, omega (arith, e, few), fine_less (suc depth) len less older outer e rest)

fine_written : (depth len : ℕ) (saved : List Saved) (since : List ℕ) → Fine depth saved len since → Fine depth saved (suc len) (map suc since)
fine_written zero len saved since fine = tt
fine_written (suc depth) len saved [] fine = absurd fine
fine_written (suc zero) len saved (count ∷ outer) fine = omega (arith, fine)
fine_written (suc (suc depth)) len saved (count ∷ outer) (mark, older, is, few, rest) = (mark, older, is, omega (arith, few), fine_written (suc depth) len older outer rest)

-- a savepoint that stays on the list is passed over by the levels around it
fine_behind : (depth len mark : ℕ) (saved : List Saved) (since : List ℕ) → Fine (suc depth) saved len since → Fine (suc depth) (the_entry (suc depth) mark ∷ saved) len since
fine_behind depth len mark saved [] fine = absurd fine
fine_behind zero len mark saved (count ∷ outer) fine = fine
fine_behind (suc depth) len mark saved (count ∷ outer) (newest, older, is, few, rest) =
    (newest, older, cond-false (suc depth == suc (suc depth)) (the_entry (suc (suc depth)) mark ∷ saved) (from_name (suc depth) saved) (ne_eqb (suc depth) (suc (suc depth)) (λ e. omega (arith, e))) ∙ is, few, rest)

-- the marks are in order, and every open level has its savepoint
record Holds (s : LevelWrites) : Type 0 where
  marked : AreMarked s.undo.len s.undo.saved
  fine : Fine s.depth s.undo.saved s.undo.len s.since

abbrev in_state : ℕ → ℕ → List Saved → List ℕ → LevelWrites
in_state depth len saved since = record { depth = depth; undo = record { len = len; saved = saved }; since = since }

begin_holds : (depth len : ℕ) (saved : List Saved) (since : List ℕ) → AreMarked len saved → Fine depth saved len since → Holds (level_step begins (in_state depth len saved since))
begin_holds zero len saved since marked fine = record { marked = tt; fine = omega arith }
begin_holds (suc depth) len saved since marked fine = record {
  marked = (omega arith, marked);
  fine = (len, saved, cond-true (suc depth == suc depth) (the_entry (suc depth) len ∷ saved) (from_name (suc depth) saved) (eq-eqb (suc depth) (suc depth) refl), omega arith, fine);
}

write_holds : (key : ℤ) (value : Option ℤ) (depth len : ℕ) (saved : List Saved) (since : List ℕ) → AreMarked len saved → Fine depth saved len since → Holds (level_step (writes key value) (in_state depth len saved since))
write_holds key value zero len saved since marked fine = record { marked = marked; fine = tt }
write_holds key value (suc depth) len saved since marked fine = record { marked = later_marked len (suc len) saved (omega arith) marked; fine = fine_written (suc depth) len saved since fine }

commit_holds : (depth len : ℕ) (saved : List Saved) (since : List ℕ) → 1 ≤ depth → AreMarked len saved → Fine depth saved len since → Holds (level_step commits (in_state depth len saved since))
commit_holds zero len saved since some marked fine = absurd (omega arith)
commit_holds (suc zero) len saved since some marked fine = record { marked = tt; fine = tt }
commit_holds (suc (suc depth)) len saved [] some marked fine = absurd fine
commit_holds (suc (suc depth)) len saved (count ∷ outer) some marked (mark, older, is, few, rest) = record {
  marked = rest_marked len (from_name (suc depth) saved) (from_name-marked (suc depth) len saved marked);
  fine = subst (λ (found : List Saved). Fine (suc depth) (drop 1 found) len outer) (sym is) rest;
}

rollback_holds : (depth len : ℕ) (saved : List Saved) (since : List ℕ) → 1 ≤ depth → AreMarked len saved → Fine depth saved len since → Holds (level_step rolls_back (in_state depth len saved since))
rollback_holds zero len saved since some marked fine = absurd (omega arith)
rollback_holds (suc zero) len saved since some marked fine = record { marked = tt; fine = tt }
rollback_holds (suc (suc depth)) len saved [] some marked fine = absurd fine
rollback_holds (suc (suc depth)) len saved (count ∷ outer) some marked (mark, older, is, few, rest) =
    let found : AreMarked len (the_entry (suc depth) mark ∷ older) = subst (AreMarked len) is (from_name-marked (suc depth) len saved marked) in
    let back : AreMarked mark (the_entry (suc depth) mark ∷ older) = (omega arith, found.1) in
    let outside : Fine (suc depth) (the_entry (suc depth) mark ∷ older) mark outer = fine_behind depth mark mark older outer (fine_less (suc depth) len mark older outer found.0 rest) in
    subst (λ (list : List Saved). Holds (in_state (suc depth) (unwrap_or (first_mark list) len) list outer)) (sym is) (record { marked = back; fine = outside })

step_holds : (step : Step) (depth len : ℕ) (saved : List Saved) (since : List ℕ) → IsWithin depth step → AreMarked len saved → Fine depth saved len since → Holds (level_step step (in_state depth len saved since))
step_holds begins depth len saved since within marked fine = begin_holds depth len saved since marked fine
step_holds (writes key value) depth len saved since within marked fine = write_holds key value depth len saved since marked fine
step_holds commits zero len saved since within marked fine = absurd within
step_holds commits (suc depth) len saved since within marked fine = commit_holds (suc depth) len saved since (omega arith) marked fine
step_holds rolls_back zero len saved since within marked fine = absurd within
step_holds rolls_back (suc depth) len saved since within marked fine = rollback_holds (suc depth) len saved since (omega arith) marked fine
step_holds (others_change rows) zero len saved since within marked fine = record { marked = marked; fine = tt }
step_holds (others_change rows) (suc depth) len saved since within marked fine = record { marked = marked; fine = fine }

run_holds : (steps : List Step) (s : LevelWrites) → StaysWithin s.depth steps → Holds s → Holds (level_run steps s)
run_holds [] s within held = held
run_holds (step ∷ steps) s within held = run_holds steps (level_step step s) within.1 (step_holds step s.depth s.undo.len s.undo.saved s.since within.0 held.marked held.fine)

few_at : (depth len : ℕ) (saved : List Saved) (since : List ℕ) → 1 ≤ depth → Fine depth saved len since → UndoesFew (in_state depth len saved since)
few_at zero len saved since some fine = absurd (omega arith)
few_at (suc depth) len saved [] some fine = absurd fine
few_at (suc zero) len saved (count ∷ outer) some fine = omega (arith, fine)
few_at (suc (suc depth)) len saved (count ∷ outer) some (mark, older, is, few, rest) = subst (λ (list : List Saved). len ≤ unwrap_or (first_mark list) len + count) (sym is) few

pub undo_few : RollbacksUndoFew
undo_few steps within some =
    let s : LevelWrites = level_run steps no_level in
    let held : Holds s = run_holds steps no_level within (record { marked = tt; fine = tt }) in
    few_at s.depth s.undo.len s.undo.saved s.since some held.fine
