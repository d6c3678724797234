-- By which of its causes an ask is refused, as they were looked at.
use Rattle.std.proofs.Common.{◌≡◌, ◌↔◌, ℕ, ◌^◌, ◌<◌, ◌≤◌, Bool, true, false, Result, Ok, Err, arith}
use Rattle.sqlx_text.specs.declared.error.Error.{Error}
use Rattle.sqlx_text.specs.declared.error.Error.TheVariants as error

module _ {T : Type 0} where
  pub closed_shut : (r : Result T Error) (is : Bool) → r ≡ Err error.PoolClosed → is ≡ false → (r ≡ Err error.PoolClosed) ↔ (is ≡ false)
  closed_shut r is e shut = ((λ _. shut), (λ _. e))

  pub exhausted_shut : (r : Result T Error) (is : Bool) (n : ℕ) → r ≡ Err error.PoolClosed → is ≡ false → (r ≡ Err error.Exhausted) ↔ ((is ≡ true) × (2 ^ 63 < n))
  exhausted_shut r is n e shut = ((λ other. absurd cc), (λ h. absurd (let opened = h.0 in cc)))

  pub closed_exhausted : (r : Result T Error) (is : Bool) → r ≡ Err error.Exhausted → is ≡ true → (r ≡ Err error.PoolClosed) ↔ (is ≡ false)
  closed_exhausted r is e opened = ((λ other. absurd cc), (λ shut. absurd cc))

  pub closed_short : (r : Result T Error) (is : Bool) → r ≡ Err error.OutOfMemory → is ≡ true → (r ≡ Err error.PoolClosed) ↔ (is ≡ false)
  closed_short r is e opened = ((λ other. absurd cc), (λ shut. absurd cc))

  pub closed_ok : (r : Result T Error) (x : T) (is : Bool) → r ≡ Ok x → is ≡ true → (r ≡ Err error.PoolClosed) ↔ (is ≡ false)
  closed_ok r x is e opened = ((λ other. absurd cc), (λ shut. absurd cc))

  pub exhausted_ok : (X : Type 0) (r : Result T Error) (x : T) (n : ℕ) → r ≡ Ok x → n ≤ 2 ^ 63 → (r ≡ Err error.Exhausted) ↔ (X × (2 ^ 63 < n))
  exhausted_ok X r x n e few = ((λ other. absurd cc), (λ h. absurd (let many = h.1 in omega (arith, few, many))))

  pub exhausted_short : (X : Type 0) (r : Result T Error) (n : ℕ) → r ≡ Err error.OutOfMemory → n ≤ 2 ^ 63 → (r ≡ Err error.Exhausted) ↔ (X × (2 ^ 63 < n))
  exhausted_short X r n e few = ((λ other. absurd cc), (λ h. absurd (let many = h.1 in omega (arith, few, many))))
