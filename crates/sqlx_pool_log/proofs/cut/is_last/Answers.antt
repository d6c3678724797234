use Rattle.std.proofs.Common.{◌∙◌, ◌-◌, inl, inr, sym, arith, eq-eqb, ne_eqb}
use Rattle.std.proofs.lemmas.Bool.Decides.{eqb_tells}
use Rattle.sqlx_pool_log.proofs.cut.is_last.Goals as goal

pub returns-then-number-next : goal.returns-then-number-next
returns-then-number-next c = elim (eqb_tells (c.args.next - c.args.number) 1) [
  | inl e ↦ e.0 ∙ sym (eq-eqb _ _ (omega (arith, e.1)))
  | inr e ↦ e.0 ∙ sym (ne_eqb _ _ (λ k. e.1 (omega (arith, k))))
]
