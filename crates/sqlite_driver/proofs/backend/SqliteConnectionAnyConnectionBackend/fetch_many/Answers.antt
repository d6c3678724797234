-- A list without an error is what the text gave, and needs no cause.
use Rattle.std.proofs.Common.{inl, inr, subst}
use Rattle.sqlite_driver.specs.Runs.{GivesItems, RefusesItems, all_taken}
use Rattle.sqlite_driver.proofs.backend.SqliteConnectionAnyConnectionBackend.fetch_many.Goals as goal

pub returns-in-Ok-clause-steps : goal.returns-in-Ok-clause-steps
returns-in-Ok-clause-steps c = (
  inl (
    c.in-Ok.items.items,
    subst (λ text. GivesItems text (all_taken c.args.arguments) c.args.self.now c.in-Ok.items.items c.run-given.new.self) c.as_str.ensures c.in-Ok.ensures.gave,
    c.handed_out.ensures.items,
  ),
  c.in-Ok.ensures.depth,
)

pub returns-in-Ok-clause-causes : goal.returns-in-Ok-clause-causes
returns-in-Ok-clause-causes c = c.handed_out.ensures.causes c.args.self.now.faults c.run-given.new.self.faults c.args.arguments

pub returns-in-Err-clause-steps : goal.returns-in-Err-clause-steps
returns-in-Err-clause-steps c = (
  inr (
    c.in-Err.error,
    subst (λ text. RefusesItems text (all_taken c.args.arguments) c.args.self.now c.in-Err.error c.run-given.new.self) c.as_str.ensures c.in-Err.ensures.refused,
    c.refused.ensures,
  ),
  c.in-Err.ensures.depth,
)
