-- A statement more in the step that was defined last.
use Rattle.std.proofs.Common.{◌≡◌, ℕ, zero, suc, ◌+◌, List, [], ◌∷◌, ◌++◌, length, get_or, ap, arith}
use Rattle.std.proofs.Math.ListN.{set}
use Rattle.sqlx_steps_rules.specs.declared.event.Write.{Write}
use Rattle.sqlx_steps_rules.specs.Rules.{with_statement}

pub with_statement-set : (w : Write) (steps : List (List Write)) (i : ℕ) (step : List Write) → i + 1 ≡ length steps → step ≡ get_or steps i step → set steps i (step ++ w ∷ []) ≡ with_statement w steps
with_statement-set w [] i step one is = absurd (omega (arith, one))
with_statement-set w (x ∷ []) zero step one is = ap (λ (s : List Write). (s ++ w ∷ []) ∷ []) is
with_statement-set w (x ∷ []) (suc i) step one is = absurd (omega (arith, one))
with_statement-set w (x ∷ y ∷ ys) zero step one is = absurd (omega (arith, one))
with_statement-set w (x ∷ y ∷ ys) (suc i) step one is = ap (λ (s : List (List Write)). x ∷ s) (with_statement-set w (y ∷ ys) i step (omega (arith, one)) is)
