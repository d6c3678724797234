use Rattle.std.proofs.Common.{◌≡◌, ◌+◌, ◌-◌, Result, Ok, Err, OnOk, ap, ◌∙◌, length, slice_set, arith}
use Rattle.std.specs.Vec.{vec_len}
use Rattle.sqlx_steps_rules.specs.Rules.{with_statement}
use Rattle.sqlx_steps.proofs.Defining.{with_statement-set}
use Rattle.sqlx_steps.proofs.definitions.Definitions.add.Goals as goal

on_ok : {T E : Type 0} (P Q : Type 0) (r : Result T E) → (P → Q) → OnOk r P → OnOk r Q
on_ok P Q (Ok x) f h = f h
on_ok P Q (Err e) f h = tt

pub returns : goal.returns
returns c =
    let one : (vec_len c.self.inside.steps - 1) + 1 ≡ length c.self.inside.steps.items = omega (arith, c.requires, ap length c.self.view_is) in
    on_ok _ _ c.push.result (λ e.
    ap (λ s. slice_set c.self.inside.steps.items (vec_len c.self.inside.steps - 1) s) e
    ∙ with_statement-set c.args.write c.self.inside.steps.items (vec_len c.self.inside.steps - 1) c.in-Some.step.now one c.in-Some.ensures.value
    ∙ ap (with_statement c.args.write) c.self.view_is) c.push.ensures.ok
