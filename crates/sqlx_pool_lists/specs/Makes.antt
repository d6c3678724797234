-- What a step makes of a pool that stands for some marks.
use Rattle.std.specs.Prelude.{ℕ, List, ◌++◌, ⊤}
use Rattle.sqlx_pool_marks.specs.declared.mark.Mark.{Mark}
use Rattle.sqlx_pool_marks.specs.FairLog.{IsSafe, IsOrdered, IsFair}
use Rattle.sqlx_pool_lists.specs.Core.{Core}
use Rattle.sqlx_pool_lists.specs.StandsFor.{StandsIn, StandsFor}

-- The pool that the step leaves stands for the marks with those that it made. These are safe behind the others, and in order where the condition holds.
pub record MakesWhere {C : Type 0} (Where : Type 0) (max : ℕ) (marks made : List Mark) (new : Core C) : Type 0 where
  pub stands : StandsIn new (marks ++ made)
  pub safe : IsSafe max marks made
  pub order : Where → IsOrdered max marks made

-- A step that leaves the line alone is in order everywhere.
abbrev pub MakesIn : {C : Type 0} → ℕ → List Mark → List Mark → Core C → Type 0
MakesIn max marks made new = MakesWhere ⊤ max marks made new

-- A step in a family promises a safe log; who is entitled is the step's own clause.
abbrev pub MakesSafely : {C : Type 0} → ℕ → List Mark → List Mark → Core C → Type 0
MakesSafely max marks made new = MakesWhere ⊥ max marks made new

-- The lone pool that the step leaves stands for the marks with those that it made, and these may follow those before.
pub record Makes {C : Type 0} (max : ℕ) (marks made : List Mark) (new : Core C) : Type 0 where
  pub stands : StandsFor new (marks ++ made)
  pub fair : IsFair max marks made
