-- The line stays served through its calls.
use Rattle.std.proofs.Common.{◌≡◌, ℕ, ◌+◌, ◌&&◌, Bool, true, false, cond, length, Option, Some, None, refl, subst, arith}
use Rattle.std.specs.Prelude.{nat_lt}
use Rattle.std.proofs.lemmas.Map.Keys.{sorted_from_strictly_increasing}
use Rattle.sqlx_pool_places.specs.declared.took.Took.TheVariants.{Absent, Beyond, Taken}
use Rattle.sqlx_pool_places.specs.Line.{TicketLine, is_waiting, is_below_edge, first_beyond, without, take_answer, passed}
use Rattle.sqlx_pool_places.specs.Laws.{IsServed, OneMoveAPermit, LeavesWithAPermit}
use Rattle.sqlx_pool_places.proofs.RisingNumbers.{IsRising}
use Rattle.sqlx_pool_places.proofs.Edge.{has, below, below-passed, below-left_out, length-left_out, some_found}

pub one_move : OneMoveAPermit
one_move free line rising served some = by (first_beyond line) refl
  where
    rises : IsRising line.waiting
    rises = sorted_from_strictly_increasing line.waiting rising

    by : (first : Option ℕ) → first_beyond line ≡ first → IsServed (free + 1) (passed first line)
    by None is = absurd (some_found line.edge line.waiting (omega arith) is)
    by (Some n) is = omega (arith, below-passed line.edge n line.waiting rises is)

-- what was taken waited below the edge
pub taken_from : (t : ℕ) (line : TicketLine) → take_answer t line ≡ Taken → (is_waiting t line && is_below_edge t line) ≡ true
taken_from t line = by (is_waiting t line) (is_below_edge t line)
  where
    by : (a b : Bool) → cond a (cond b Taken Beyond) Absent ≡ Taken → (a && b) ≡ true
    by true true is = refl
    by true false is = cc
    by false b is = cc

pub leaves_with : LeavesWithAPermit
leaves_with free t line rising served is =
    let rises : IsRising line.waiting = sorted_from_strictly_increasing line.waiting rising in
    let both : (has t line.waiting && nat_lt t line.edge) ≡ true = taken_from t line is in
    let counts : below line.edge (without t line).waiting + cond {A = ℕ} true 1 0 ≡ below line.edge line.waiting = subst (λ b. below line.edge (without t line).waiting + cond {A = ℕ} b 1 0 ≡ below line.edge line.waiting) both (below-left_out t line.edge line.waiting rises) in
    let here : has t line.waiting ≡ true = first_true (has t line.waiting) (nat_lt t line.edge) both in
    let fewer : length (without t line).waiting + cond {A = ℕ} true 1 0 ≡ length line.waiting = subst (λ b. length (without t line).waiting + cond {A = ℕ} b 1 0 ≡ length line.waiting) here (length-left_out t line.waiting rises) in
    omega arith
  where
    first_true : (a b : Bool) → (a && b) ≡ true → a ≡ true
    first_true true b e = refl
    first_true false b e = cc
