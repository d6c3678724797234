use Rattle.std.proofs.Common.{◌∙◌, ap, arith, inl, inr, length, refl}
use Rattle.sqlx_any.proofs.arguments.AnyArguments.convert_into.Goals as goal

pub loop-value-smaller : goal.loop-value-smaller
loop-value-smaller g c = omega (arith, ap length c.in-Some.ensures)

pub loop-value-preserved : goal.loop-value-preserved
loop-value-preserved g c = (
  λ after adds. c.loop-value.invariant.0 after (rw c.in-Some.ensures (g.DB.Arguments.Arguments.buffered c.add_value.new.args, c.in_default-add_value.ensures.ok, adds)),
  omega (arith, c.in_default-add_value.ensures.one.0, ap length c.in-Some.ensures, c.loop-value.invariant.1),
  λ fault refused. c.loop-value.invariant.2 fault (rw c.in-Some.ensures (inr refused)),
)

pub returns-clause-ok : goal.returns-clause-ok
returns-clause-ok g c = (
  g.DB.Arguments.Arguments.buffered c.new-args.result,
  c.new-args.ensures,
  rw (← (c.from_vec-values.ensures.items ∙ c.into_values.ensures)) (c.loop-value.invariant.0 (g.DB.Arguments.Arguments.buffered c.loop-value.args) (rw c.in_default.ensures.0 refl)),
)

pub returns-clause-count : goal.returns-clause-count
returns-clause-count g c =
    omega (arith, c.loop-value.invariant.1, ap length c.in_default.ensures.0, ap length c.from_vec-values.ensures.items, ap length c.into_values.ensures)

pub returns-in-Err-clause-refused : goal.returns-in-Err-clause-refused
returns-in-Err-clause-refused g c =
    rw (← (c.from_vec-values.ensures.items ∙ c.into_values.ensures)) (c.loop-value.invariant.2 c.in-Err.fault (rw c.in-Some.ensures (inl c.in-Err.ensures.refused)))
