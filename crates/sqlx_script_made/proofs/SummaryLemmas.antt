-- A step of the loop that reads what was written.
use Rattle.std.proofs.Common.{◌≡◌, ◌==◌, ℕ, ◌+◌, ◌<◌, ◌≤◌, Bool, true, false, List, [], ◌∷◌, if◌then◌else◌, length, get_or, refl, sym, arith}
use Rattle.std.proofs.lemmas.Bool.{ne_eqb}
use Rattle.std.specs.List.{starts_with}
use Rattle.std.proofs.lemmas.List.Sums.{sum_by-cons}
use Rattle.sqlx_script_made.specs.Summary.{one_for, beginning}

-- one more line is counted
pub counted_more : (n one total : ℕ) (front line : List ℕ) (lines : List (List ℕ))
    → one ≡ one_for front line → n + beginning front (line ∷ lines) ≡ total → n + one + beginning front lines ≡ total
counted_more n one total front line lines is so_far =
    omega (arith, is, so_far, sum_by-cons (λ l. if starts_with ◌==◌ l front then 1 else 0) line lines)

-- a line that begins with another byte isn't counted
pub other_front : (b : ℕ) (front line : List ℕ) → (get_or line 0 0 ≡ b → ⊥) → 0 < length line → one_for (b ∷ front) line ≡ 0
other_front b front [] other some = absurd (omega (arith, some))
other_front b front (c ∷ line) other some = rw (ne_eqb b c (λ e. other (sym e))) refl

pub at_most_one : (front line : List ℕ) → one_for front line ≤ 1
at_most_one front line = at_most (starts_with ◌==◌ line front)
  where
    at_most : (c : Bool) → (if c then 1 else 0) ≤ 1
    at_most true = omega arith
    at_most false = omega arith
