-- What a store stands for that writes values where amounts are put down: the same brackets, and at each write the sum of all that stands before it.
use Rattle.std.specs.Prelude.{ℕ, zero, suc, ℤ, pos, ◌+ℤ◌, cond, Some, List, [], ◌∷◌}
use Rattle.std.specs.Ordering.{int_eq}
use Rattle.sqlx_savepoints.specs.Standing.{Standing, opened, wrote}
use Rattle.sqlx_transfer_rules.specs.declared.bank_line.BankLine.{BankLine}
use Rattle.sqlx_transfer_rules.specs.Transfers.{amount_of, nobody}

-- the sum of all amounts of a key, whoever sees them
abbrev pub all_in : ℤ → List Standing → ℤ
all_in key [] = pos 0
all_in key (opened c ∷ before) = all_in key before
all_in key (wrote c k v ∷ before) = cond (int_eq key k) (amount_of v) (pos 0) +ℤ all_in key before

-- the opening balances of accounts 1 to n, written before any client came
abbrev pub opening_rows : ℕ → ℕ → List Standing
opening_rows opening zero = []
opening_rows opening (suc n) = wrote nobody (pos (suc n)) (Some (pos opening)) ∷ opening_rows opening n

-- the values in place of the amounts
abbrev pub valued : BankLine → List Standing → List Standing
valued bank [] = opening_rows bank.opening bank.accounts
valued bank (opened c ∷ before) = opened c ∷ valued bank before
valued bank (wrote c key v ∷ before) = wrote c key (Some (pos bank.opening +ℤ (amount_of v +ℤ all_in key before))) ∷ valued bank before
