-- How much room marks take that are written or not, and a mark by the two cases.
use Rattle.std.proofs.Common.{◌≡◌, ℕ, ◌*◌, length, Bool, true, false, cond, List, [], ◌∷◌, refl, sym}
use Rattle.sqlx_pool_marks.specs.declared.mark.Mark.{Mark}
use Rattle.sqlx_pool_marks.specs.declared.mark.Mark.TheVariants.{Opened, Kept}
use Rattle.sqlx_pool_lists.specs.Balance.{one_if}

-- a mark, or none, by the two cases
pub so-made : (made : Bool → List Mark) (m : Mark) → made true ≡ m ∷ [] → made false ≡ [] → (so : Bool) → cond so (m ∷ []) [] ≡ made so
so-made made m made_one made_none true = sym made_one
so-made made m made_one made_none false = sym made_none

-- it takes as much room as it says
pub so-long : (so : Bool) (m : Mark) → length (cond so (m ∷ []) []) ≡ one_if so
so-long true m = refl
so-long false m = refl

-- the marks of a connection that was opened for the minimum take as much room as they say
pub opened-long : (so : Bool) (n m : ℕ) → length (cond so (Opened n m ∷ Kept n m ∷ []) []) ≡ 2 * one_if so
opened-long true n m = refl
opened-long false n m = refl
