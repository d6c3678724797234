-- What the books of a pool and a tally of its loans come to.
use Rattle.std.specs.Prelude.{◌≡◌, ℕ, ◌+◌, Bool}
use Rattle.sqlx_pool_lists.specs.Balance.{one_if}

-- How many connections have an owner, and how many loans were ever made.
pub record Booked : Type 0 where
  pub owned : ℕ
  pub made : ℕ

-- The parts of the loan ledger that a tally has, and how many loans were counted in it.
pub record Tallied : Type 0 where
  pub parts : ℕ
  pub loans : ℕ

-- A tally in which one loan more was counted, or none. Its parts stay.
pub record CountsIf (lent : Bool) (old new : Tallied) : Type 0 where
  pub parts : new.parts ≡ old.parts
  pub loans : new.loans ≡ old.loans + one_if lent
