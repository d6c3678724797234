use Rattle.std.proofs.Common.{◌∙◌, refl, sym}
use Rattle.sqlx_pool_history.proofs.Showing.{prefix_same}
use Rattle.sqlx_pool_lists.specs.declared.steps.Given.TheVariants as given
use Rattle.sqlx_pool.proofs.PollLemmas.{by_true}
use Rattle.sqlx_pool.proofs.connection.PoolConnectionOf.return_to_pool_seen.Goals as goal

pub returns-in-Kept-clause-gives : goal.returns-in-Kept-clause-gives
returns-in-Kept-clause-gives g c = record {
  at = c.check-check.ensures.checks.0;
  looked = c.check-check.new.me;
  decides = c.check-check.ensures.checks.1;
  check = c.check-check.result;
  tested = c.check-check.new.raw;
  between = c.check-check.new.out;
  checks = c.check-check.ensures.checks.2;
  goes = by_true _ _ _ (sym c.passes.ensures ∙ c.if-not-passes.false) (given.Kept, (c.give.new.me, c.in-Kept.ensures.saw, prefix_same c.give.new.me), refl);
}

pub returns-in-Closed-clause-gives : goal.returns-in-Closed-clause-gives
returns-in-Closed-clause-gives g c = record {
  at = c.check-check.ensures.checks.0;
  looked = c.check-check.new.me;
  decides = c.check-check.ensures.checks.1;
  check = c.check-check.result;
  tested = c.check-check.new.raw;
  between = c.check-check.new.out;
  checks = c.check-check.ensures.checks.2;
  goes = by_true _ _ _ (sym c.passes.ensures ∙ c.if-not-passes.false)
      (given.Closed c.in-Closed.raw, (c.give.new.me, c.in-Closed.ensures.saw, c.keep_minimum_seen.ensures.later), ((c.keep_minimum_seen.result, refl), (c.close_by-in-Closed.new.out, c.close_by-in-Closed.ensures.closes)));
}

pub returns-clause-gives : goal.returns-clause-gives
returns-clause-gives g c = record {
  at = c.check-check.ensures.checks.0;
  looked = c.check-check.new.me;
  decides = c.check-check.ensures.checks.1;
  check = c.check-check.result;
  tested = c.check-check.new.raw;
  between = c.check-check.new.out;
  checks = c.check-check.ensures.checks.2;
  goes = by_true _ _ _ (sym c.passes.ensures ∙ c.if-not-passes.false)
      (given.NotHeld c.in-NotHeld.raw, (c.give.new.me, c.in-NotHeld.ensures.saw, prefix_same c.give.new.me), (refl, (c.close_by-in-NotHeld.new.out, c.close_by-in-NotHeld.ensures.closes)));
}
