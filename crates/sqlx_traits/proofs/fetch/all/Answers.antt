use Rattle.std.proofs.Common.{◌∙◌, ◌∷◌, Ok, ap, append-nil, arith, inl, inr, length, refl, sym}
use Rattle.sqlx_traits.proofs.StepLemmas.{all_of_more}
use Rattle.sqlx_traits.proofs.fetch.all.Goals as goal

pub returns-then-is_err : goal.returns-then-is_err
returns-then-is_err g c = inr refl

pub loop-item-smaller : goal.loop-item-smaller
loop-item-smaller g c = omega (arith, ap length c.in-Some.ensures.steps)

pub loop-item-preserved : goal.loop-item-preserved
loop-item-preserved g c =
    all_of_more c.loop-item.all.items c.push.new.self.items c.in-Ok.row c.loop-item.rows c.next.new.self _
    (c.in-Some.ensures.steps ∙ ap (λ item. item ∷ c.next.new.self) c.in-Ok.is) (rw c.if-is_err.ensures.negation at c.push.ensures.items) c.loop-item.invariant

pub returns-in-Err : goal.returns-in-Err
returns-in-Err g c = inl (sym (rw (c.in-Some.ensures.steps, c.in-Err.is) at c.loop-item.invariant))

pub returns : goal.returns
returns g c = sym (rw c.in_default.ensures.steps.0 at c.loop-item.invariant) ∙ ap Ok (append-nil c.loop-item.all.items)
